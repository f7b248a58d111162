pub use Rattle.cc.specs.Made
pub use Rattle.cc_laws.specs.Laws
pub mod Theorem
