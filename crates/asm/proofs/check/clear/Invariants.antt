use Rattle.asm.specs.inside.Choice.{AllAre}
use Rattle.asm.proofs.check.clear.Given as goal

abbrev pub invariant-loop-l : goal.invariant-loop-l
invariant-loop-l l = AllAre l.homes l.end l.l
