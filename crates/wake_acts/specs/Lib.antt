pub mod WakeLaws
pub mod Waking
