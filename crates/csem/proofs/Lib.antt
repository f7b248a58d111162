mod Rows
mod CallRows
mod MoreRows
pub mod Clock
pub mod Histories
pub mod Writes
pub mod InPlace
pub mod Fits
