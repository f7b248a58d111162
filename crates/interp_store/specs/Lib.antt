pub mod Cells
pub mod View
pub mod inside
pub mod layer
