pub mod Types
pub mod Held
pub mod Lookups
pub mod TypeTests
pub mod Laws
pub mod Lemmas
