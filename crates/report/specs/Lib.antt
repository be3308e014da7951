pub use Rattle.mvn_base.specs.Gav
pub use Rattle.build_core.specs.OneThread
pub mod BuildDetails
pub mod Rows
pub use Rattle.report.specs.BuildDetails as notes
pub use Rattle.classpaths.specs.Classpaths
pub use Rattle.model_json.specs.ModelJson
pub mod FullDetails
pub mod Full
pub mod Report
