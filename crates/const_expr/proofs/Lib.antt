mod Foldings
mod Listed
pub mod Sizes
pub mod Limits
pub mod Numbered
mod Work
mod Parts
mod Trees
mod Given
mod SizesRead
pub mod Wholes
