-- What only proofs and private clauses need.
pub mod Stops
pub mod Streams
pub mod Light
