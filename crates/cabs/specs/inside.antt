-- Needed only by proofs and private functions: nothing here has to be trusted.
pub mod Standing
pub mod Sweeping
