pub mod Decoding
pub mod Carrying
