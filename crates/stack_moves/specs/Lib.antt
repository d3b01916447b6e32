pub mod Editing
pub mod Entering
pub mod EnteringLaws
pub mod SwapLaws
pub mod Lemmas
