use Rattle.asm.specs.inside.Choice.{Noting}
use Rattle.asm.proofs.check.note_items.Given as goal

abbrev pub invariant-loop-i : goal.invariant-loop-i
invariant-loop-i l = Noting l.homes l.items l.i
