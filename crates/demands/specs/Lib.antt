pub mod Demands
pub mod Laws
pub mod Examples
pub mod Lemmas
