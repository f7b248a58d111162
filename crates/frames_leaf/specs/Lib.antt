pub mod Allocated
pub mod layer
pub use Rattle.frames_code.specs.Sound
pub use Rattle.frames_code.specs.Costs
