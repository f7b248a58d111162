pub mod Held
pub mod Given
pub mod Steps
pub mod Cleared
pub mod Entered
pub mod Weights
