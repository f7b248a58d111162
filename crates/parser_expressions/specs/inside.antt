pub mod PartAnswers
pub mod PlainSpecifiers
