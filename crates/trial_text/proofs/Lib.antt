pub mod Ranges
pub mod Appended
