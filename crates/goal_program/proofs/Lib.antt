mod Examples
pub mod Arrays
pub mod Cuts
pub mod RequestSettings
pub mod RequestSteps
pub mod Taking
pub mod Texts
pub mod Feeds
pub mod Files
pub mod Json
pub mod LawLists
pub mod Named
pub mod Requests
pub mod LawSettings
pub mod LawSteps
pub mod Replies
pub mod Steps
