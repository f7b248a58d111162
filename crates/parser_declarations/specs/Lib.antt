pub mod DeclarationAnswers
pub mod inside
