pub mod LocalSteps
pub mod LocalSearch
pub mod LocalLoop
pub mod LocalWorlds
pub mod Lemmas
