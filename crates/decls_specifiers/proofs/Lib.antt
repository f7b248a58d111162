mod Enumerators
mod Lists
pub mod Walks
