-- What contracts between crates cite; nothing of it has to be believed.
pub mod Functions
