pub mod GapSteps
pub mod Values
pub mod Worked
pub mod SeenWorked
