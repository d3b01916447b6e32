pub mod Heaps
pub mod Logs
