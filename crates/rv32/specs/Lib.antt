pub mod Words
pub mod Space
pub mod Arithmetic
pub mod Step
pub mod Table
pub mod Laws
pub mod Segments
