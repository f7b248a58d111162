use Rattle.verify_expressions.proofs.Summaries.{entered_begin, entered_step, entered_end}
use Rattle.verify_expressions.proofs.calls.each_enters.Goals as goal

pub loop-n-init : goal.loop-n-init
loop-n-init c = entered_begin c.args.passed.now c.args.objects.now c.args.own.now

pub loop-n-preserved : goal.loop-n-preserved
loop-n-preserved c = entered_step c.args.passed.now c.args.objects.now c.args.own.now c.loop-n.n c.index-objects-n.result _ c.requires.objects c.loop-n-test.true c.index-objects-n.is (c.enters-right.ensures c.if-not-right.false) c.loop-n.invariant

pub returns : goal.returns
returns c = λ t. entered_end c.args.passed.now c.args.objects.now c.args.own.now c.loop-n.n c.requires.objects c.requires.passed c.loop-n-test.false c.loop-n.invariant
