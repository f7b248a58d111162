use Rattle.std.proofs.Common.{◌≡◌, nat_eq}
use Rattle.std.specs.List.{list_any}
use Rattle.macros_substitution.specs.HideSets.{members}
use Rattle.macros_substitution.proofs.hide_sets.HideSets.contains.Given as goal

abbrev pub invariant-loop : goal.invariant-loop
invariant-loop l = list_any (nat_eq l.name) (members l.self l.initial.left) ≡ list_any (nat_eq l.name) (members l.self l.left)
