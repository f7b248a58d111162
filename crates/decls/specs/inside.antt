pub mod Elements
pub mod Parts
pub mod Sizes
