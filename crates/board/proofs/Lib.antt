mod AnswerOutputs
mod Placed
pub mod KeptOutputs
pub mod Sharing
mod AnswerMore
mod Boards
mod Busy
mod Carries
mod DueReads
pub mod Few
mod Logs
mod Shelves
mod StateLists
mod Steps
mod Telling
mod Theres
