use Rattle.asm.specs.inside.Choice.{AllInside}
use Rattle.asm.proofs.check.is_full.Given as goal

abbrev pub invariant-loop-home : goal.invariant-loop-home
invariant-loop-home l = AllInside l.homes l.end l.home-index
