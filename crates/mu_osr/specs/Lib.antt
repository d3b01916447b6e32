pub mod Rooms
pub mod Kept
pub mod Pushing
pub mod Faults
pub mod Laws
pub mod Lemmas
