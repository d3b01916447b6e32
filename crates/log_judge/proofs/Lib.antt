pub mod Keyed
pub mod OnlyValues
pub mod Listed
pub mod Passed
