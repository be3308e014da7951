pub mod Injected
pub mod Meeting
pub mod Reading
pub mod Collecting
pub mod Counting
pub mod Projects
