pub mod Laws
pub use Rattle.tac_code.specs.Lowered
pub mod inside
