pub mod Goals
pub mod GoalsLeft
pub mod Moments
pub mod Present
pub mod Requests
pub mod Same
