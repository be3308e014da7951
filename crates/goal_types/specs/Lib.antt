pub mod Answers
pub mod GoalRules
pub mod Goals
pub mod Lines
pub mod Requests
