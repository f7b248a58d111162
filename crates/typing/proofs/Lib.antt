mod Declarations
mod Statements
mod Names
mod BodyScopes
mod Units
