pub mod StatementAnswers
pub mod StmtParts
pub mod UnitAnswers
