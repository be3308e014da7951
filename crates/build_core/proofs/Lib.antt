mod Tables
pub mod Sharing
pub mod Examples
