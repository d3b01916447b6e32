pub mod Trees
pub mod Odometer
pub mod GrownLaws
pub mod Found
pub mod ListedLaws
