pub mod Views
pub mod inside
pub use Rattle.typing_spec.specs.Initialisers
