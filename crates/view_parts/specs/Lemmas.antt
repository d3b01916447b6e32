-- Lemmas on what is kept, with their proofs, for this crate's proofs and those of the crates above. Nothing here need be believed, and
-- no clause names anything here.
pub mod Entries
pub mod Found
pub mod ValuesKept
pub mod RowsKept
pub mod CellKept
pub mod Gained
pub mod CellsKept
pub mod FloorFound
pub mod NoneFound
pub mod RaceFound
pub mod Owning
pub mod Places
