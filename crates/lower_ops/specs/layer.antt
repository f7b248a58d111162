-- Definitions that the contracts between the crates of this layer cite; none of them has to be believed.
pub mod Emitted
pub mod FormSizes
pub mod Parts
pub mod Rows
pub mod Small
