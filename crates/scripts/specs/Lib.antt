pub use Rattle.build_core.specs.Locks
pub mod Bounds
pub mod Climbing
pub mod HeldAt
pub mod Outlines
pub mod Rests
pub mod ScriptPlaces
pub mod Scripts
