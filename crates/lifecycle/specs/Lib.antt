pub mod Bindings
pub mod Goals
