pub mod BuiltIns
pub mod NewestNames
pub mod Scopes
