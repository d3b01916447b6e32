-- A bundle by the numbers of its checked code.
pub mod Sources
pub mod Forms
pub mod Numbered
pub mod Examples
-- Laws: it is the bundle by its names.
pub mod Laws
pub mod Lemmas
