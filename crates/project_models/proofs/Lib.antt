pub mod Each
pub mod Leading
pub mod Paths
pub mod Apart
pub mod Giving
pub mod Holding
pub mod Looking
pub mod Told
