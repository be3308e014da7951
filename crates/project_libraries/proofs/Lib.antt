pub mod Joining
pub mod Listed
pub mod Keeping
pub mod Modules
pub mod Running
