pub mod SuperPom
pub mod Inherit
pub mod Others
pub mod Placing
