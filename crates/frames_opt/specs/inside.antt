-- What only proofs and private functions need: nothing here has to be believed.
pub mod Facts
pub mod Rules
pub mod Liveness
pub mod Passes
pub mod Sweep
