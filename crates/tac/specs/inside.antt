-- What only proofs and private clauses need.
pub mod Scopes
pub mod FirstSizes
pub mod Starts
pub mod Sizes
pub mod Places
pub mod Written
pub mod Functions
pub mod Few
