pub mod Grown
pub mod Inside
