-- Lemmas with their proofs, for this crate's proofs and those of the crates above. Nothing here need be believed, and no clause names
-- anything here.
pub mod Searches
pub mod Places
pub mod LocalRuns
pub mod Turning
pub mod Behaving
pub mod Diamonds
pub mod Leaves
pub mod Runs
pub mod Finding
pub mod Same
pub mod Whole
pub mod Typed
pub mod Texts
pub mod Looping
pub mod Pruned
