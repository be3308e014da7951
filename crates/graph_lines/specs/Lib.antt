pub use Rattle.mediation.specs.Libraries
pub mod Held
