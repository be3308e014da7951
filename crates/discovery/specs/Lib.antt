pub use Rattle.pom_source.specs.Answers
pub use Rattle.pom_source.specs.Worlds
pub use Rattle.lineage.specs.Stores
pub mod Met
pub mod Profiles
pub mod Discovery
pub mod Listing
