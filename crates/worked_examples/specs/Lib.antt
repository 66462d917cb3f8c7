pub mod Dry
