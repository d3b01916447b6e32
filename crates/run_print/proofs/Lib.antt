pub mod BlockNames
pub mod FunctionNames
pub mod Members
pub mod Spaces
