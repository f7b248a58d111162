pub mod Guards
pub mod Including
pub mod Pending
pub mod Reading
pub mod Stepping
pub mod Calls
