pub use Rattle.event_core.specs.SoundPlans
pub use Rattle.module_plan.specs.Plans
pub use Rattle.run_law.specs.Given
pub mod Example
pub mod Ready
