pub use Rattle.srcset.specs.Codes
pub mod Port
pub mod Memory
pub mod Streams
pub mod inside
