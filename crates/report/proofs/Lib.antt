pub mod Rows
mod Examples
pub mod Lists
pub mod Named
