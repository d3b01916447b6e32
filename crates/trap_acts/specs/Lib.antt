pub mod TrapLaws
pub mod Trapping
