use Rattle.verify_logic.proofs.StatementRules.{empty_rule}
use Rattle.verify_statements.proofs.Steps.{left_as}
use Rattle.verify_statements.proofs.statements.empty.Goals as goal

pub returns : goal.returns
returns c = left_as _ _ _ _ _ c.only.ensures (empty_rule _ _ _)
