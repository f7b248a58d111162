use Rattle.std.proofs.Common.{◌≡◌, ◌≤◌, ◌++◌, nat_eq, length}
use Rattle.std.specs.List.{list_any, filter}
use Rattle.macros_substitution.specs.HideSets.{members}
use Rattle.macros_substitution.proofs.hide_sets.HideSets.shared.Given as goal

abbrev pub invariant-loop-left : goal.invariant-loop-left
invariant-loop-left l = record {
  known : l.left ≤ length l.self;
  same : filter (λ n. list_any (nat_eq n) (members l.self l.other)) (members l.self l.initial.left) ≡ l.names.items ++ filter (λ n. list_any (nat_eq n) (members l.self l.other)) (members l.self l.left);
}

abbrev pub decreases-loop-left : goal.decreases-loop-left
decreases-loop-left l = l.left
