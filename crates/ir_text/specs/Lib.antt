pub mod NameLists
pub mod OpKinds
pub mod BodiesSoFar
pub mod TextAnswers
pub mod WrittenBodies
pub mod WrittenBundles
