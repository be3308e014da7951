pub mod CoordinateBytes
pub mod Coordinates
pub mod Cuts
pub mod Expressions
pub mod FileNames
