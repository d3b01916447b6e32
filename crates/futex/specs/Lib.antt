pub mod Waiting
pub mod WaitingExamples
pub mod Kept
