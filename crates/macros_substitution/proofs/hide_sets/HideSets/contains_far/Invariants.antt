use Rattle.std.proofs.Common.{◌≡◌, nat_eq}
use Rattle.std.specs.List.{list_any}
use Rattle.macros_substitution.specs.HideSets.{members}
use Rattle.macros_substitution.proofs.hide_sets.HideSets.contains_far.Given as goal

abbrev pub invariant-loop-left : goal.invariant-loop-left
invariant-loop-left l = list_any (nat_eq l.name) (members l.self l.initial.left) ≡ list_any (nat_eq l.name) (members l.self l.left)

abbrev pub decreases-loop-left : goal.decreases-loop-left
decreases-loop-left l = l.left
