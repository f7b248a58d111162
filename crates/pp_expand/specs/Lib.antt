pub use Rattle.macros.specs.Table
pub mod Expansion
pub mod Expands
pub mod Pulled
pub mod Streams
pub mod Laws
pub mod inside
pub mod Meaning
