pub use Rattle.verify_theorem.specs.Theorem as VerifiedTheorem
pub mod Verified
pub mod Sizes
