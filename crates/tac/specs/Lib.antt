pub mod layer
pub mod inside
pub use Rattle.lower_correct.specs.Bodies
