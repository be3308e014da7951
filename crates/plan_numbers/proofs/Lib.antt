pub mod SelectedCounting
pub mod Counting
pub mod Joined
