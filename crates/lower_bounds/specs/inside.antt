-- What only proofs need.
pub mod Rooms
