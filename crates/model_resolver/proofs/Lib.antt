pub mod Counting
pub mod Finding
pub mod Limits
pub mod Places
pub mod Validity
