pub mod Managed
pub mod Keys
