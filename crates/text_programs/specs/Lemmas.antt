-- Lemmas with their proofs, for this crate's proofs and those of the crates above. Nothing here need be believed, and no clause names
-- anything here.
pub mod Texts
pub mod Entered
pub mod Endings
pub mod Offers
pub mod Moments
pub mod RunLogs
pub mod Printable
pub mod Numbers
pub mod Asking
