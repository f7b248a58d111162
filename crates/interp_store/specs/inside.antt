-- The abstract machine with an explicit stack. Nothing here has to be trusted: laws relate it to the definition.
pub mod Laws
