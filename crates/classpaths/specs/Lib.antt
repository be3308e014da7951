pub use Rattle.mvn_base.specs.FileName
pub mod Classpaths
pub mod Example
