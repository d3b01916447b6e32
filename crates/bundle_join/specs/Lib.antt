pub mod Alike
pub mod Joined
pub mod Firsts
pub mod Steps
pub mod Examples
