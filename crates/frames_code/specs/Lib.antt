pub mod Code
pub mod Run
pub mod Sound
pub mod Costs
