pub mod Cause
pub mod Files
pub mod Held
pub mod Told
pub mod formers
