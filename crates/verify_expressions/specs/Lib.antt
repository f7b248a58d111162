pub mod Views
pub mod Parts
