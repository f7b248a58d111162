use Rattle.asm.proofs.Widening.{Choosing}
use Rattle.asm.proofs.layout.settle.Given as goal

abbrev pub invariant-loop-turn : goal.invariant-loop-turn
invariant-loop-turn l = Choosing l.base l.items l.long l.places
