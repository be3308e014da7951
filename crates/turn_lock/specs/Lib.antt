pub use Rattle.atomic_table.specs.Seated
pub mod Turns
pub mod Rule
pub mod Noted
pub mod Resting
pub mod Passes
pub mod TurnExamples
