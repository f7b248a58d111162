use Rattle.lower_correct.specs.Bodies.{slots_of}
use Rattle.tac.proofs.Whole.{most_next}
use Rattle.tac.proofs.counts.most_slots.Goals as goal

pub loop-instruction-preserved : goal.loop-instruction-preserved
loop-instruction-preserved c = most_next slots_of c.args.code.now c.loop-instruction.instruction-index _ c.loop-instruction-test.true _ _ _ c.loop-instruction.invariant c.slots_of.ensures c.greater-most.ensures
