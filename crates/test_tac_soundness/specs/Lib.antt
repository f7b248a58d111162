pub use Rattle.tac_code.specs.Code
pub use Rattle.tac_code.specs.Sound
pub mod inside
