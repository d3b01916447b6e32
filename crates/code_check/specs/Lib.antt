pub mod Gifts
pub mod Verdicts
pub mod ComputationExamples
pub mod MemoryExamples
