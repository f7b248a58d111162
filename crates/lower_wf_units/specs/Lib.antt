pub mod Laws
pub mod Objects
pub use Rattle.lower_wf.specs.Settled
pub use Rattle.tac_code.specs.Designated
