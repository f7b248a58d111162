pub mod Sums
pub mod Bytes
pub mod Firsts
pub mod Values
pub mod Readings
pub mod Wholes
