use Rattle.verify_logic.proofs.Compares.{read_looks}
use Rattle.verify_expressions.proofs.Steps.{not_false}
use Rattle.verify_expressions.proofs.comparisons.looked_at.Goals as goal

pub returns : goal.returns
returns c = read_looks _ _ _ _ _ _ c.in-Some.ensures.finds c.in-Some.ensures.scalar c.in-Some-content_at.ensures (not_false _ c.if-not-set.false)
