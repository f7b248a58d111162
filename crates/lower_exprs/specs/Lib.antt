pub mod inside
pub use Rattle.lower_correct.specs.Values
pub use Rattle.lower_correct.specs.Code
pub mod layer
