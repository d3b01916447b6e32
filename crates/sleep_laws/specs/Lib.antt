pub mod Fits
pub mod SleepTree
pub mod SleepLaws
pub mod SleepLoop
pub mod SleepCounts
pub mod SleepWorlds
pub mod Lemmas
