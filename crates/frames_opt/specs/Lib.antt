pub mod Simplified
pub mod layer
pub mod inside
pub use Rattle.frames_code.specs.Sound
pub use Rattle.frames_code.specs.Costs
