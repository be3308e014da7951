mod Examples
pub mod Statuses
pub mod Steps
