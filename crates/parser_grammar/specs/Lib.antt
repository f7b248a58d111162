pub mod Declarations
pub mod Expressions
pub mod Statements
pub mod Tokens
pub mod layer
