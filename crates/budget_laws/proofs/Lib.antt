pub mod Counts
pub mod Longer
pub mod Seen
