use Rattle.asm.specs.inside.Choice.{longs, Widens}
use Rattle.asm.proofs.layout.widen_parts.Given as goal

abbrev pub invariant-loop-turn : goal.invariant-loop-turn
invariant-loop-turn l = Widens l.base l.items (longs l.initial.long) (longs l.long)
