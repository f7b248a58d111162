use Rattle.std.proofs.Common.{◌≡◌, ℕ, ◌≤◌, ◌++◌, length}
use Rattle.srcset.specs.NameTable.{Texts, NumbersOnce}
use Rattle.macros_substitution.specs.HideSets.{Sets, members, spelled, Extends, NamesBelow}
use Rattle.macros_substitution.specs.Meaning.{hidden_all, AreIn}
use Rattle.macros_substitution.specs.Substitution.{marked, hiding}
use Rattle.macros_substitution.specs.inside.Both.{IsBoth}
use Rattle.macros_substitution.proofs.front.put_in_front.Given as goal

abbrev pub invariant-loop-last : goal.invariant-loop-last
invariant-loop-last l = record {
  tokens : AreIn (length l.sets) l.new.items;
  known : l.hides ≤ length l.sets;
  last : IsBoth l.sets l.hides l.last_set;
  behind : AreIn (length l.sets) l.rest.items;
  grown : Extends l.initial.sets l.sets;
  names : (count : ℕ) → NamesBelow count l.initial.sets → NamesBelow count l.sets;
  same : (texts : Texts) (later : Sets) → NumbersOnce texts → NamesBelow (length texts) l.initial.sets → Extends l.sets later →
      marked l.space_before (hiding (spelled texts (members later l.hides)) (hidden_all texts later l.new.items)) ++ hidden_all texts later l.rest.items
      ≡ marked l.space_before (hiding (spelled texts (members later l.hides)) (hidden_all texts later l.initial.new.items)) ++ hidden_all texts later l.initial.rest.items;
}

abbrev pub decreases-loop-last : goal.decreases-loop-last
decreases-loop-last l = length l.new.items
