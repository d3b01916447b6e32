pub mod Stacks
pub mod Directories
pub mod DirectoryExamples
pub mod Lending
pub mod Kept
pub mod Lemmas
