pub mod Store
pub mod History
pub mod Machine
pub mod Expressions
pub mod Statements
pub mod Meaning
pub mod Laws
