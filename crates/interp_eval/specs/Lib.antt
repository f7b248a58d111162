pub mod layer
