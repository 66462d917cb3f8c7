pub mod Keys
pub mod Calls
pub mod Scans
pub mod Places
pub mod Entries
pub mod Trees
