pub mod Work
pub mod Loops
pub mod Steps
pub mod Switches
pub mod Quiet
pub mod Fills
pub mod RowRules
