pub mod Tree
pub mod Capped
pub mod Counts
pub mod Limits
pub mod View
pub mod Rows
