pub use Rattle.mvn_outside.specs.Faults
pub use Rattle.mvn_shared.specs.Cause
pub mod RealSources
pub mod RealSpawners
pub mod Children
pub mod Numbers
pub mod Reading
