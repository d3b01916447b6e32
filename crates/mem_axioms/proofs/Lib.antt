pub mod Reversed
pub mod RowLemmas
pub mod RowsKept
