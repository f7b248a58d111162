pub mod Told
pub mod inside
