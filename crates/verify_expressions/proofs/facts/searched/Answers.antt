use Rattle.verify_expressions.proofs.Elements.{among_here}
use Rattle.verify_expressions.proofs.facts.searched.Goals as goal

pub returns-then-same : goal.returns-then-same
returns-then-same c = among_here _ _ _ _ _ c.loop-n-test.true (c.is_of-same.ensures c.if-same.true)
