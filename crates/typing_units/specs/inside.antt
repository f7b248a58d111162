pub mod Parts
pub mod Undefined
