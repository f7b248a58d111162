pub mod ExpressionAnswers
pub mod ExpressionLeads
pub mod inside
