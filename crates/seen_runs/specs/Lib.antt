pub mod Seen
pub mod Finals
pub mod Writes
