pub mod Selected
pub mod Program
pub mod Bytes
pub use Rattle.srcset.specs.Fault
pub use Rattle.asm.specs.Layout
pub use Rattle.frames_code.specs.Code
pub use Rattle.frames_code.specs.Sound
pub mod inside
