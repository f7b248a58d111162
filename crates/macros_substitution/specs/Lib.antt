pub use Rattle.srcset.specs.NameTable
pub use Rattle.macros.specs.Macro
pub use Rattle.macros.specs.Table
pub mod Substitution
pub mod HideSets
pub mod Meaning
pub mod inside
