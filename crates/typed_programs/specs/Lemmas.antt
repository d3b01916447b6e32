-- Lemmas with their proofs, for this crate's proofs and those of the crates above. Nothing here need be believed, and no clause names
-- anything here.
pub mod Blocks
pub mod Classes
pub mod Sources
pub mod Computing
pub mod Goals
pub mod Calling
pub mod Going
pub mod Shapes
pub mod Making
pub mod Memory
pub mod Stacks
pub mod Structs
pub mod Doing
pub mod Typed
pub mod Running
