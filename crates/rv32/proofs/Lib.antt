pub mod Inverse
pub mod Spaces
pub mod Stays
pub mod Uses
pub mod Tables
pub mod Registers
