use Rattle.verify_statements.proofs.Steps.{evaluated_or_none, evaluated_or_some}
use Rattle.verify_statements.proofs.statements.evaluated_or.Goals as goal

pub returns-in-None : goal.returns-in-None
returns-in-None c = evaluated_or_none _ c.args.e.now _ c.in-None.is

pub returns-in-Some : goal.returns-in-Some
returns-in-Some c = evaluated_or_some _ c.args.e.now c.in-Some.e _ c.evaluated_behind.result c.in-Some.is c.evaluated_behind.ensures
