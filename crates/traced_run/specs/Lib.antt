pub use Rattle.sim.specs.Meets
pub use Rattle.sim.specs.Machines
pub mod Traced
