pub mod IsLocal
