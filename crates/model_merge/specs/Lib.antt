pub mod Configuration
pub mod Names
pub mod Keyed
pub mod Keys
pub mod Merging
pub mod Singles
pub mod Stated
