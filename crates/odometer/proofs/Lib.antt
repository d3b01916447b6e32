pub mod NextLaws
pub mod TreeLaws
pub mod FoundLaws
pub mod NoteLaws
