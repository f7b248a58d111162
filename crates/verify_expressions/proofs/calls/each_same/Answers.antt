use Rattle.verify_expressions.proofs.Summaries.{shapes_next, shapes_end}
use Rattle.verify_expressions.proofs.calls.each_same.Goals as goal

pub loop-n-preserved : goal.loop-n-preserved
loop-n-preserved c = shapes_next c.args.xs.now c.args.outer.now c.args.objects.now c.loop-n.n c.index-xs-n.result _ _ c.requires c.loop-n-test.true c.index-xs-n.is c.deref.ensures.value (c.same-equal.ensures c.if-not-equal.false) c.shape-lengths.ensures c.loop-n.invariant

pub returns : goal.returns
returns c = λ t. shapes_end c.args.xs.now c.args.outer.now c.args.objects.now c.loop-n.n c.loop-n-test.false c.requires c.loop-n.invariant
