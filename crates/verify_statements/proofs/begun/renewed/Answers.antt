use Rattle.verify_statements.proofs.Steps.{renewed_as}
use Rattle.verify_statements.proofs.begun.renewed.Goals as goal

pub returns : goal.returns
returns c = renewed_as _ _ _ _ _ _ _ c.base.ensures c.in-Some.ensures (c.has_object-there.ensures c.if-not-there.false) c.uninitialised-k.ensures c.in_ok-state2.ensures
