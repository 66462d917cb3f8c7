pub mod Keys
pub mod Calls
pub mod Order
pub mod Links
