pub mod Light
pub mod Standing
pub mod Whole
pub mod Laws
pub mod Worlds
