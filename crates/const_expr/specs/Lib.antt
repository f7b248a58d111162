pub mod Typings
pub mod Operands
pub mod Given
pub mod Told
