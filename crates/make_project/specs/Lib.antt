pub use Rattle.outside_mem.specs.FilesNamed
pub use Rattle.outside_mem.specs.Tree
pub use Rattle.report.specs.Report
pub mod Poms
pub mod Projects
pub mod Summaries
pub mod Worked
