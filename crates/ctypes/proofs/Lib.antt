pub mod Exact
pub mod Uses
