pub mod Given
pub mod Playing
pub mod Runs
pub mod StepPaths
pub mod Steps
pub mod Spent
