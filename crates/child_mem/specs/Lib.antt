pub use Rattle.children.specs.Children
pub use Rattle.children.specs.Reading
pub use Rattle.mvn_outside.specs.Faults
pub use Rattle.mvn_shared.specs.Cause
pub use Rattle.outside_mem.specs.Calls
pub mod Scripts
pub mod Source
pub mod Spawner
