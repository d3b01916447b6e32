pub mod Facts
pub mod Texts
pub mod Spelled
pub mod Lemmas
