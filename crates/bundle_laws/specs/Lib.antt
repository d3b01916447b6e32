pub mod Typed
pub mod TypedLaws
pub mod Accepted
pub mod Laws
pub mod Lemmas
