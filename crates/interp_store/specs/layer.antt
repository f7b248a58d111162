-- Definitions that the contracts between the crates of this layer cite; none of them has to be trusted.
pub mod Agrees
pub mod Digits
pub mod Frames
pub mod Presents
pub mod Steps
pub mod Views
