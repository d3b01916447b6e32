pub mod CellsAsked
pub mod Making
pub mod ObjectLaws
pub mod ObjectViews
