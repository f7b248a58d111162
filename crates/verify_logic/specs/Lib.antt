pub mod States
pub mod Judgements
pub mod Places
pub mod Statements
pub mod Relations
pub mod Calls
pub mod Whole
