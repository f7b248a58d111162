use Rattle.std.proofs.Common.{sym}
use Rattle.verify.proofs.FirstFacts.{no_facts, value_next}
use Rattle.verify.proofs.first_objects.with_values.Goals as goal

pub loop-index-init : goal.loop-index-init
loop-index-init c = no_facts _ _ _

pub loop-index-preserved : goal.loop-index-preserved
loop-index-preserved c = value_next c.args.n c.args.x c.in-Ok.j c.loop-index.index c.args.values.now _ _ _ _ c.loop-index-test.true (sym c.in-Ok.ensures.1) c.value_interval-interval.ensures.low c.value_interval-interval.ensures.high c.loop-index.invariant c.in_ok-next.ensures

pub returns : goal.returns
returns c = c.loop-index.invariant
