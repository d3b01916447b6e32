-- The places of a bundle.
pub mod PlacesOf
-- Laws: an accepted bundle is a well-typed program, and no step of its runs is without a rule.
pub mod Laws
pub mod Examples
pub mod Lemmas
