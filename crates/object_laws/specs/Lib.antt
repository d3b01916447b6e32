pub mod Leaves
pub mod Lemmas
