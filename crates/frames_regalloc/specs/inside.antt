-- Definitions that only proofs and private functions need: nothing here has to be believed.
pub mod Pairs
