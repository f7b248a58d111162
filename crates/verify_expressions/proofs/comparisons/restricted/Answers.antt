use Rattle.verify_logic.proofs.Compares.{empty_restricts, same_restricts}
use Rattle.verify_expressions.proofs.Steps.{object_some}
use Rattle.verify_expressions.proofs.comparisons.restricted.Goals as goal

pub returns-then-empty : goal.returns-then-empty
returns-then-empty c = empty_restricts _ _ _ (c.is_empty-empty.ensures c.if-empty.true)

pub returns-in-Number : goal.returns-in-Number
returns-in-Number c = same_restricts _ _ _

pub returns-in-Object : goal.returns-in-Object
returns-in-Object c = object_some _ _ _ _ c.object_restricted.result c.in-Object.is c.object_restricted.ensures
