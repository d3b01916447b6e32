pub mod Watching
pub mod Entering
pub mod Editing
