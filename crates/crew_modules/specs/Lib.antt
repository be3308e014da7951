pub mod Fetched
pub mod Had
pub mod Answering
pub mod Putting
