pub mod Unhidden
pub mod Turns
pub mod Waits
pub mod Pulls
