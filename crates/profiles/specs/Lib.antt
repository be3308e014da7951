pub mod Contents
pub mod Injection
pub mod Activation
pub mod FileTexts
pub mod Judging
pub mod Known
pub mod Lookups
