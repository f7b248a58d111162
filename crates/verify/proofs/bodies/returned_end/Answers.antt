use Rattle.verify.proofs.Steps.{returns_end}
use Rattle.verify.proofs.bodies.returned_end.Goals as goal

pub returns : goal.returns
returns c = returns_end _ _ _ (c.falls-ends.ensures c.if-ends.false)
