pub use Rattle.reactor.specs.Reactor
pub mod Picks
pub mod Selected
