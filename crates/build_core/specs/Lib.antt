pub mod Locks
pub use Rattle.mvn_shared.specs.Files
pub mod OneThread
pub mod Slots
