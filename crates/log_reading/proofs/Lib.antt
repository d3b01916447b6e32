pub mod Digits
pub mod Few
pub mod Going
pub mod NextFields
pub mod Numbering
pub mod Splitting
