use Rattle.verify_logic.proofs.StatementRules.{continue_rule}
use Rattle.verify_statements.proofs.statements.continued.Goals as goal

pub returns : goal.returns
returns c = continue_rule _ _ _
