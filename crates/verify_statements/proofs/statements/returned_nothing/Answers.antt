use Rattle.verify_logic.proofs.StatementRules.{return_nothing_rule}
use Rattle.verify_statements.proofs.statements.returned_nothing.Goals as goal

pub returns : goal.returns
returns c = return_nothing_rule _ _ _ c.uninitialised-value.ensures
