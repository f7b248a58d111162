use Rattle.verify.specs.Says.{Fresh}
use Rattle.verify.proofs.bodies.fresh.Given as goal

abbrev pub invariant-loop-n : goal.invariant-loop-n
invariant-loop-n l = Fresh l._n l.out.items
