use Rattle.verify_logic.proofs.Facts.{implied_end}
use Rattle.verify_expressions.proofs.Elements.{imply_begin, imply_next}
use Rattle.verify_expressions.proofs.facts.facts_imply.Goals as goal

pub loop-n-init : goal.loop-n-init
loop-n-init c = imply_begin _ c.args.ys.now

pub loop-n-preserved : goal.loop-n-preserved
loop-n-preserved c = imply_next c.args.xs.now c.args.ys.now c.loop-n.n _ _ c.loop-n-test.true c.in-Some.ensures (c.lies_in-within.ensures c.if-not-within.false) c.loop-n.invariant

pub returns : goal.returns
returns c = λ t. implied_end c.args.xs.now c.args.ys.now c.loop-n.n c.loop-n-test.false c.loop-n.invariant
