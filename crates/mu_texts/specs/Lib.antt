pub mod What
pub mod Refusals
pub mod Start
pub mod Answer
pub mod Comes
pub mod Examples
pub mod Lemmas
