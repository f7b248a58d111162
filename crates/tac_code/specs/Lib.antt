pub mod Code
pub mod Run
pub mod Costs
pub mod Laws
pub mod Sound
pub mod Spans
pub mod Designated
pub mod Lowered
