pub use Rattle.mvn_shared.specs.Files
pub use Rattle.pom_source.specs.Worlds
pub mod Poms
