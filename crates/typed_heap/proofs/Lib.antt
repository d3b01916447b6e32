pub mod Apart
pub mod Rowed
pub mod Repeating
