pub mod EventTexts
pub mod Texts
pub mod Pieces
pub mod PieceExamples
