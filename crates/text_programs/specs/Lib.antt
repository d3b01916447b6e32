pub mod Laws
pub mod Offers
pub mod Moments
pub mod Lines
pub mod RunLogs
pub mod Printable
pub mod Numbers
pub mod Lemmas
