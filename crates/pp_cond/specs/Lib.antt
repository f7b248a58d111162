pub use Rattle.srcset.specs.Refusal
pub use Rattle.phases.specs.Token
pub mod Values
pub mod Condition
pub mod Refused
pub mod inside
pub mod layer
