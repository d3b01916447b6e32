pub mod GoingOn
pub mod Releasing
pub mod Searching
