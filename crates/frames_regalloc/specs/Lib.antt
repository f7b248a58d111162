pub mod Renumbered
pub mod Laws
pub mod inside
pub use Rattle.frames_code.specs.Sound
pub use Rattle.frames_code.specs.Costs
