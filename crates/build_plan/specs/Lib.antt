pub use Rattle.mvn_outside.specs.Shelf
pub use Rattle.pom_source.specs.Answers
pub use Rattle.model_resolver.specs.Devices
pub use Rattle.project_models.specs.Telling
pub use Rattle.built_modules.specs.Selected
pub mod Planning
