pub mod Sums
pub mod Rows
