pub mod Agreeing
pub mod Acting
pub mod Running
pub mod Whole
pub mod InTurn
