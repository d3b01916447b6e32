-- Lemmas on clocks along a log, with their proofs, for this crate's proofs and those of the crates above. Nothing here need be
-- believed, and no clause names anything here. The laws stand in `Theorems`.
pub mod Stands
pub mod ClockTest
pub mod Sequences
pub mod Machine
pub mod SeqCstFences
pub mod Tests
pub mod FloorTests
