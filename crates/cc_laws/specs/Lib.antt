pub use Rattle.typing_spec.specs.Units
pub use Rattle.csem.specs.Meaning
pub use Rattle.sim.specs.Runs
pub use Rattle.select_correct.specs.Convention
pub use Rattle.cc_backend.specs.Runs as RunsOfFiles
pub use Rattle.cc_backend.specs.Made as MadeFiles
pub mod Laws
pub mod Overflow
pub mod Frames
pub mod Inputs
pub mod Reserved
pub mod Words
