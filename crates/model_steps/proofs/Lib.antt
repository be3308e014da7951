pub mod Problems
pub mod Validity
pub mod Building
pub mod Likeness
mod Apart
mod Declaring
pub mod Completed
pub mod Placing
