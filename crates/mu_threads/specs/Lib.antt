pub mod Threads
pub mod ThreadExamples
pub mod Lending
pub mod Kept
pub mod Picks
pub mod ScheduleTexts
pub mod ScheduleExamples
