use Rattle.phases.proofs.RunLemmas.{ordinary_block, ordinary_rest}
use Rattle.std.proofs.Common.{arith, sym, ◌∙◌}
use Rattle.phases.proofs.runs.ordinary_bytes.Goals as goal

pub loop-count-preserved : goal.loop-count-preserved
loop-count-preserved c =
    (omega (arith, c.loop-count-test.true, c.loop-count.invariant.0), ordinary_block c.args.stop c.loop-count.count 16 c.args.bytes.now c.loop-count.invariant.0 c.loop-count.invariant.1 c.loop-count-test.true (sym c.all_ordinary.ensures ∙ c.if-all_ordinary.true))

pub overflow_add-result : goal.overflow_add-result
overflow_add-result c = omega (arith, ordinary_rest c.args.stop c.loop-count.count c.args.bytes.now c.ordinary_front.result c.ordinary_front.ensures c.loop-count.invariant.1)
