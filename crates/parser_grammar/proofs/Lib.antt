pub mod DeclarationBegun
pub mod Exits
pub mod ExpressionBegun
pub mod Series
pub mod Tokens
pub mod UnitBegun
