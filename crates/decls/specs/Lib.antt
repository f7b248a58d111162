pub mod Views
pub mod Told
pub mod inside
