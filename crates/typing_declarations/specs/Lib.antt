pub mod Views
pub mod inside
