pub mod Refused
pub mod Forms
pub mod Numbered
pub mod Calls
