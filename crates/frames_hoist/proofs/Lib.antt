pub mod Agreeing
pub mod Acting
pub mod Running
pub mod Placing
pub mod Whole
pub mod InTurn
