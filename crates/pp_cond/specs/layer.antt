-- Definitions that the contracts between the crates of this layer cite; none of them has to be trusted.
pub mod HasRead
