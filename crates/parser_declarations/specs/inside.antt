pub mod DeclarationFronts
pub mod DeclarationParts
pub mod InitAnswers
pub mod ItemAnswers
pub mod SpecifierAnswers
