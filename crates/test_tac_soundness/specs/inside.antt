-- Definitions that only proofs and private functions need: nothing here has to be trusted.
pub mod Parts
