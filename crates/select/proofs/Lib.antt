pub mod Lists
pub mod Shortened
pub mod Powers
pub mod Sound
pub mod Nearer
pub mod Programs
pub mod Lengths
pub mod Rows
