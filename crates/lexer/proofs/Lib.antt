pub mod NumberLemmas
pub mod LiteralLemmas
pub mod CarryLemmas
pub mod LawLemmas
pub mod ReadingLemmas
pub mod Uses
