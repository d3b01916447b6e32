pub mod Apart
pub mod Finding
pub mod Oldest
