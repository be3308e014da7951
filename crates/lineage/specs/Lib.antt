pub use Rattle.pom_source.specs.Answers
pub use Rattle.pom_source.specs.Worlds
pub mod Reading
pub mod Lineage
pub mod Stores
pub mod Beside
