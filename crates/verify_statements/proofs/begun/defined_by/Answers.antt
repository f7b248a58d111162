use Rattle.verify_statements.proofs.Steps.{defined_at}
use Rattle.verify_statements.proofs.begun.defined_by.Goals as goal

pub returns : goal.returns
returns c = defined_at _ _ _ _ _ _ _ _ _ _ _ _ _ _ c.only.ensures c.base.ensures c.in-Some.ensures (c.has_object-there.ensures c.if-not-there.false) (c.is_scalar-scalar.ensures c.if-not-scalar.false) c.in_ok-state2.ensures c.in_ok-v.ensures c.conversion-interval.ensures c.in_ok-state3.ensures
