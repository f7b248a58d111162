pub mod Controls
pub mod Loops
pub mod Pieces
