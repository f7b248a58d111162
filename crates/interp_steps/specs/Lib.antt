pub mod Labels
pub mod Zeros
