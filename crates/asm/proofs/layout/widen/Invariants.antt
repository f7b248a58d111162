use Rattle.asm.proofs.Widening.{Widening}
use Rattle.asm.proofs.layout.widen.Given as goal

abbrev pub invariant-loop-i : goal.invariant-loop-i
invariant-loop-i l = Widening l.homes l.base l.items l.initial.long l.long l.i l.changed
