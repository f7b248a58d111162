pub mod Roles
pub mod Agree
pub mod Whole
pub mod Rows
