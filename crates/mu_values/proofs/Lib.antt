pub mod Cuts
pub mod Members
pub mod Masks
pub mod Appending
