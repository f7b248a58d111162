pub use Rattle.verify_logic.specs.Whole
pub use Rattle.verify_stack.specs.Bounds
pub use Rattle.cc_theorem.specs.Theorem as TheoremOfFiles
pub mod Theorem
