pub mod Verdicts
pub mod Laws
pub mod Searches
pub mod Newer
pub mod Examples
