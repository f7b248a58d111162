pub mod Sizes
pub mod Steps
pub mod Runs
pub mod Trees
pub mod Whole
