pub use Rattle.children.specs.RealSpawners
pub use Rattle.gates.specs.Gate
pub mod Gates
