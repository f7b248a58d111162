use Rattle.verify_logic.proofs.StatementRules.{evaluate_rule}
use Rattle.verify_statements.proofs.Steps.{left_as}
use Rattle.verify_statements.proofs.statements.evaluated.Goals as goal

pub returns : goal.returns
returns c = left_as _ _ _ _ _ c.only.ensures (evaluate_rule _ _ _ _ _ _ c.in_ok-v.ensures)
