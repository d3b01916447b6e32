pub mod Likeness
pub mod Firsts
pub mod Comparing
pub mod Steps
