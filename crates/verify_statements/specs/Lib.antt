pub mod Ways
pub mod Loops
pub mod Switches
pub mod Quiet
pub mod Fills
pub mod Rows
