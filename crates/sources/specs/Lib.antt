pub use Rattle.mvn_shared.specs.Cause
pub use Rattle.mvn_shared.specs.Files
pub use Rattle.pom_source.specs.Answers
pub use Rattle.model_resolver.specs.Devices
pub mod Folders
pub mod Modules
pub mod Earlier
pub mod Sources
