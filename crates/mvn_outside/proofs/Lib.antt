pub mod Stages
pub mod NumberMaps
