pub mod GivenLemmas
pub mod HandingOut
pub mod Performing
pub mod Runs
