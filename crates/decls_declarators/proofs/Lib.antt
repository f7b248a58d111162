pub mod Verdicts
pub mod Strings
mod Lengths
pub mod Limits
mod ParameterRules
mod Parameters
