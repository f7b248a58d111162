use Rattle.verify_statements.proofs.Steps.{never_executes}
use Rattle.verify_statements.proofs.statements.never_executed.Goals as goal

pub returns : goal.returns
returns c = never_executes _ _ _ _ c.requires
