pub mod Classes
pub mod Scopes
pub mod Labels
pub mod Locals
