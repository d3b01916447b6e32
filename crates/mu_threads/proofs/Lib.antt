pub mod Runnable
pub mod Gaps
pub mod Runs
pub mod Judging
pub mod Taking
