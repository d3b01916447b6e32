pub mod CastLaws
pub mod LeastLocal
pub mod Locals
pub mod Machines
pub mod Rare
pub mod Running
