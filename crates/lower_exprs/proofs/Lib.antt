pub mod Lists
pub mod Nodes
pub mod Held
pub mod Expressions
pub mod Located
pub mod Passed
pub mod Behind
pub mod Room
