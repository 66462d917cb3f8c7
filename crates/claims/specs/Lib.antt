pub mod Sides
pub mod Lines
pub mod Reviews
