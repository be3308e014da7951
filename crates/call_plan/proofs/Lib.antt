pub mod Present
pub mod Workers
pub mod FirstHand
pub mod Planned
