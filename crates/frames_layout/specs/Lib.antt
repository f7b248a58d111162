pub mod LaidOut
pub mod layer
