pub mod Held
pub mod Parts
pub mod Operated
pub mod Stored
pub mod Rows
mod Deep
