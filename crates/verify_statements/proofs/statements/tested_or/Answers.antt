use Rattle.verify_statements.proofs.Steps.{tested_or_none, tested_or_some}
use Rattle.verify_statements.proofs.statements.tested_or.Goals as goal

pub returns-in-None : goal.returns-in-None
returns-in-None c = tested_or_none _ c.args.e.now _ c.in-None.is

pub returns-in-Some : goal.returns-in-Some
returns-in-Some c = tested_or_some _ c.args.e.now c.in-Some.e _ c.tested_behind.result c.in-Some.is c.tested_behind.ensures
