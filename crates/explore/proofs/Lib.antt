pub mod Reading
pub mod Files
pub mod Listed
pub mod Together
pub mod Answering
pub mod Causes
