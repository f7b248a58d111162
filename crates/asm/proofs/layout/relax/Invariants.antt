use Rattle.asm.specs.inside.Choice.{shorts}
use Rattle.asm.proofs.Widening.{Choosing}
use Rattle.asm.proofs.layout.relax.Given as goal

abbrev pub invariant-loop-long : goal.invariant-loop-long
invariant-loop-long l = Choosing l.base l.items l.long l.places

abbrev pub decreases-loop-long : goal.decreases-loop-long
decreases-loop-long l = shorts l.long
