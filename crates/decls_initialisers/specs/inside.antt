pub mod Braces
pub mod Numbered
pub mod Values
