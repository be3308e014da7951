pub mod Variables
pub mod Words
