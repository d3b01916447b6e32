pub mod Asked
pub mod Edited
pub mod Flags
pub mod Changes
