pub mod Asked
pub mod Conditions
pub mod Answers
pub mod Explored
pub mod Parts
pub mod Reading
