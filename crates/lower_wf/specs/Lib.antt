pub mod Laws
pub mod Settled
pub mod Asked
pub use Rattle.tac_code.specs.Sound
pub use Rattle.tac_code.specs.Spans
pub use Rattle.tac_code.specs.Designated
