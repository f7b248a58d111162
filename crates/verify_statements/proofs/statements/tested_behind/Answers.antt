use Rattle.verify_logic.proofs.StatementRules.{tests_some}
use Rattle.verify_statements.proofs.statements.tested_behind.Goals as goal

pub returns : goal.returns
returns c = tests_some _ _ _ _ _ c.in_ok-t.ensures
