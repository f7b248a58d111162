use Rattle.std.proofs.Common.{◌≡◌, ◌∷◌, take}
use Rattle.decls.proofs.finished_objects.widened.Given as goal

abbrev pub invariant-loop-inner : goal.invariant-loop-inner
invariant-loop-inner l = l.wide.items ≡ l.length ∷ take l.inner-index l.lengths
