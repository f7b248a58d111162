pub mod Types
pub mod Arithmetic
pub mod Laws
