pub mod Files
pub mod Fault
pub mod NameTable
pub mod Codes
pub mod Headers
pub mod Refusal
pub mod Writing
pub mod inside
