use Rattle.verify_statements.proofs.Steps.{evaluated_some}
use Rattle.verify_statements.proofs.statements.evaluated_behind.Goals as goal

pub returns : goal.returns
returns c = evaluated_some _ _ _ _ _ c.in_ok-v.ensures
