pub mod Answers
pub mod Chains
pub mod Refusals
pub mod Worlds
