pub mod Ordered
pub mod Parting
pub mod Taking
