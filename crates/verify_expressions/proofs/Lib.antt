pub mod Work
pub mod Steps
pub mod Summaries
pub mod Elements
