pub mod Children
mod Examples
pub mod Present
