use Rattle.verify_logic.proofs.StatementRules.{default_rule}
use Rattle.verify_statements.proofs.Steps.{left_as}
use Rattle.verify_statements.proofs.labels.defaulted.Goals as goal

pub returns : goal.returns
returns c = left_as _ _ _ _ _ c.only.ensures (default_rule _ _ _)
