pub mod Pairs
pub mod Words
pub mod Steps
pub mod Whole
pub mod Soundness
