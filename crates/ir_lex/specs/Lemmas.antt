-- Lemmas with their proofs, for this crate's proofs and those of the crates above. Nothing here need be believed, and no clause names
-- anything here.
pub mod Prefixes
pub mod Longest
pub mod Meanings
pub mod GapLemmas
pub mod Judging
pub mod Nexts
pub mod Lists
pub mod Cursors
