pub mod Unwinding
pub mod Places
