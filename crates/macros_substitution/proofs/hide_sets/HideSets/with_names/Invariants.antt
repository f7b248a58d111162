use Rattle.std.proofs.Common.{◌≡◌, ℕ, ◌≤◌, ◌++◌, length}
use Rattle.macros_substitution.specs.HideSets.{members, Extends, AreBelow, NamesBelow}
use Rattle.macros_substitution.proofs.hide_sets.HideSets.with_names.Given as goal

abbrev pub invariant-loop-name : goal.invariant-loop-name
invariant-loop-name l = record {
  known : l.made ≤ length l.self;
  grown : Extends l.initial.self l.self;
  same : l.names.items ++ members l.self l.made ≡ l.initial.names.items ++ members l.initial.self l.initial.made;
  below : (count : ℕ) → AreBelow count l.initial.names.items → NamesBelow count l.initial.self → AreBelow count l.names.items × NamesBelow count l.self;
}

abbrev pub decreases-loop-name : goal.decreases-loop-name
decreases-loop-name l = length l.names.items
