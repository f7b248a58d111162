use Rattle.verify_statements.proofs.Steps.{returned_as}
use Rattle.verify_statements.proofs.statements.returned_value.Goals as goal

pub returns : goal.returns
returns c = returned_as _ _ _ _ _ _ _ _ c.in_ok-v.ensures c.conversion-interval.ensures c.initialised-value.ensures
