pub mod LastLines
pub mod Building
pub mod Calls
pub mod Lists
