pub mod Nodes
pub mod Firsts
pub mod Steps
pub mod Reading
pub mod Both
pub mod Plain
pub mod Wholes
