pub mod Left
pub mod Called
pub mod Tallies
