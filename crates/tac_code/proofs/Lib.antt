pub mod Growing
pub mod Weights
pub mod Rows
pub mod FortyTwo
