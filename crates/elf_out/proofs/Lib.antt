pub mod Pushing
pub mod Reading
pub mod Memory
