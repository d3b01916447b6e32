pub mod Laws
pub mod Verdicts
pub mod RunsRead
pub mod PlainLines
