-- What the judge keeps of a log.
pub mod CellKeys
pub mod Kept
