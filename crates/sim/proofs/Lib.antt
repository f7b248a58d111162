pub mod Ticks
pub mod Composing
pub mod Keeping
pub mod Plain
pub mod Moving
