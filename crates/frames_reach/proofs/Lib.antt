pub mod Acting
pub mod Leading
pub mod Staying
pub mod Running
pub mod Whole
pub mod InTurn
