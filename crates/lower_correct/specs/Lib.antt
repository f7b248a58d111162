pub use Rattle.lower_wf.specs.Asked
pub mod Values
pub mod Places
pub mod Code
pub mod Initialisers
pub mod Bodies
pub mod Laws
pub mod Words
