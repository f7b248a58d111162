use Rattle.verify_expressions.proofs.Summaries.{same_step, same_end}
use Rattle.verify_expressions.proofs.calls.each_equal.Goals as goal

pub loop-n-preserved : goal.loop-n-preserved
loop-n-preserved c = same_step c.args.xs.now c.args.ys.now c.loop-n.n _ _ c.loop-n-test.true c.requires (c.is_same-equal.ensures c.if-not-equal.false) c.loop-n.invariant

pub returns : goal.returns
returns c = λ t. same_end c.args.xs.now c.args.ys.now c.loop-n.n c.loop-n-test.false c.requires c.loop-n.invariant
