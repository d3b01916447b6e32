-- Lemmas with their proofs, for this crate's proofs and those of the crates above. Nothing here need be believed, and no clause names
-- anything here.
pub mod Rows
pub mod Firsts
pub mod Filled
pub mod Runs
pub mod LeafClasses
pub mod Found
pub mod Fitted
pub mod Landing
