-- Lemmas with their proofs, for this crate's proofs and those of the crates above. Nothing here need be believed, and no clause names
-- anything here.
pub mod Steady
pub mod Depth
pub mod Partition
pub mod Classes
pub mod Ranks
pub mod Proved
pub mod Respect
pub mod Counts
pub mod Walks
pub mod Descents
pub mod Unfolds
