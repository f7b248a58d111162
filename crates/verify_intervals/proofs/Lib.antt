pub mod Numbers
pub mod Operators
pub mod Decisions
