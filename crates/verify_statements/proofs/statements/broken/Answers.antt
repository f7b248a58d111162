use Rattle.verify_logic.proofs.StatementRules.{break_rule}
use Rattle.verify_statements.proofs.statements.broken.Goals as goal

pub returns : goal.returns
returns c = break_rule _ _ _
