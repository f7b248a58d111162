pub mod Calls
pub mod Usages
pub mod Recursions
pub mod Bounds
