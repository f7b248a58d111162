-- Definitions that only proofs and private clauses need.
pub mod Refusing
