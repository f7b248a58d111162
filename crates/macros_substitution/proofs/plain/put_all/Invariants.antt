use Rattle.std.proofs.Common.{◌≡◌, ◌++◌, length}
use Rattle.macros_substitution.specs.inside.Plain.{all_held, KeepsUsed}
use Rattle.macros_substitution.proofs.plain.put_all.Given as goal

abbrev pub invariant-loop-left : goal.invariant-loop-left
invariant-loop-left l = record {
  done : l.done.items ++ all_held l.arguments l.initial.full.items l.left ≡ all_held l.arguments l.initial.full.items l.initial.left;
  keeps : KeepsUsed l.left l.initial.full.items l.full.items;
}

abbrev pub decreases-loop-left : goal.decreases-loop-left
decreases-loop-left l = length l.left
