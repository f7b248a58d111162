-- Definitions that only proofs and private functions need: nothing here has to be trusted.
pub mod Choice
pub mod Code
pub mod Sole
pub mod TextRows
pub mod Refusing
