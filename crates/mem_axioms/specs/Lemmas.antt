-- Lemmas of the memory model, with their proofs, for the proofs of the crates above and of this one. Their statements are
-- checked, so nothing here need be believed, and no clause names anything here. The laws stand in
-- `Theorems`, `OptionTheorems` and `RunTheorems`.
--
-- Events by their numbers, happens-before by its last step.
pub mod Numbers
pub mod Steps
pub mod Least
-- Positions, values, and the axioms as relations.
pub mod Positions
pub mod Relations
pub mod Values
pub mod Initials
-- What one more event changes.
pub mod Added
pub mod Kept
pub mod Racings
-- The options of an access.
pub mod Passing
pub mod Floors
pub mod Options
pub mod Downward
pub mod Offers
-- The log of a run.
pub mod Growing
pub mod Widening
pub mod Fitting
pub mod Building
