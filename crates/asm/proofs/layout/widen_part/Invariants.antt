use Rattle.asm.specs.inside.Choice.{longs, Widens}
use Rattle.asm.proofs.layout.widen_part.Given as goal

abbrev pub invariant-loop-i : goal.invariant-loop-i
invariant-loop-i l = Widens l.base l.items (longs l.initial.long) (longs l.long)
