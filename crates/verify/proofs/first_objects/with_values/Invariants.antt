use Rattle.std.proofs.Common.{[], ◌∷◌}
use Rattle.csem.specs.Store.{laid_out}
use Rattle.verify.specs.Says.{TreeFacts}
use Rattle.verify.proofs.first_objects.with_values.Given as goal

abbrev pub invariant-loop-index : goal.invariant-loop-index
invariant-loop-index l = TreeFacts (laid_out (l.n ∷ []) l.values) l.x l.fn.facts.items l.out.items
