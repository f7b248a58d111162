use Rattle.std.proofs.Common.{◌≡◌, ◌++◌}
use Rattle.std.specs.List.{filter}
use Rattle.macros_substitution.specs.HideSets.{members, is_new}
use Rattle.macros_substitution.proofs.hide_sets.HideSets.lacking.Given as goal

abbrev pub invariant-loop-left : goal.invariant-loop-left
invariant-loop-left l =
    filter (is_new (members l.self l.other)) (members l.self l.initial.left) ≡ l.names.items ++ filter (is_new (members l.self l.other)) (members l.self l.left)

abbrev pub decreases-loop-left : goal.decreases-loop-left
decreases-loop-left l = l.left
