use Rattle.std.proofs.Common.{◌≡◌, take}
use Rattle.lower_correct.specs.Bodies as relation
use Rattle.tac.proofs.counts.most_slots.Given as goal

abbrev pub invariant-loop-instruction : goal.invariant-loop-instruction
invariant-loop-instruction l = l.most ≡ relation.most relation.slots_of (take l.instruction-index l.code)
