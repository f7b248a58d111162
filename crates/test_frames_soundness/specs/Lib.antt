pub use Rattle.frames_code.specs.Code
pub use Rattle.frames_code.specs.Sound
pub mod inside
