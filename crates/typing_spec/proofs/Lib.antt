pub mod DeclarationRows
pub mod ProgramRows
pub mod Rows
pub mod Scopes
pub mod Verdicts
pub mod TypedRows
pub mod WellTypedRows
