pub mod Sets
pub mod Texts
pub mod Listed
pub mod Names
