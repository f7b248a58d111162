use Rattle.verify_logic.proofs.StatementRules.{case_rule}
use Rattle.verify_statements.proofs.Steps.{left_as}
use Rattle.verify_statements.proofs.labels.cased.Goals as goal

pub returns : goal.returns
returns c = left_as _ _ _ _ _ c.only.ensures (case_rule _ _ _ _)
