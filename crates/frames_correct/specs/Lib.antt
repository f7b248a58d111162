pub mod Matched
pub mod Laws
pub use Rattle.tac_code.specs.Sound
pub use Rattle.frames.specs.Translated
pub use Rattle.frames.specs.Flattened
