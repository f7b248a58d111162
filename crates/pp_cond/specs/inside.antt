pub mod Operands
pub mod Roles
pub mod Reading
