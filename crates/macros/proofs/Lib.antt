pub mod RefusalLemmas
pub mod TableLemmas
pub mod ReadingLemmas
pub mod FaultLemmas
pub mod DefineLemmas
