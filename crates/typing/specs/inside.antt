pub mod Names
pub mod Bodies
