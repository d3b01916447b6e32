-- Lemmas with their proofs, for this crate's proofs and those of the crates above. Nothing here need be believed, and no clause names
-- anything here.
pub mod Told
pub mod Shapes
pub mod Completed
pub mod References
pub mod Every
pub mod Accepted
pub mod Names
pub mod Signatures
pub mod Functions
pub mod Constants
pub mod FirstBlocks
pub mod Derived
pub mod Spelled
