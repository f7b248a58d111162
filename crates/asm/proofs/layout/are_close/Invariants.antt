use Rattle.asm.specs.inside.Choice.{AllClose}
use Rattle.asm.proofs.layout.are_close.Given as goal

abbrev pub invariant-loop-i : goal.invariant-loop-i
invariant-loop-i l = AllClose l.homes l.items l.i
