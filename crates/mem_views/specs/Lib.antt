pub mod Placing
pub mod Threads
pub mod Bounds
pub mod Holding
pub mod Differing
