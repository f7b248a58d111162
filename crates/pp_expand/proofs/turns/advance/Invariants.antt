use Rattle.std.proofs.Common.{◌≡◌, ℕ, length}
use Rattle.macros.specs.Macro.{Macros}
use Rattle.macros.specs.Table.{IsTable}
use Rattle.macros_substitution.specs.HideSets.{Sets, Extends, NamesBelow}
use Rattle.pp_expand.specs.Meaning.{level_meaning, LevelIn}
use Rattle.pp_expand.proofs.turns.advance.Given as goal

abbrev pub invariant-loop-x : goal.invariant-loop-x
invariant-loop-x l = record {
  known : LevelIn (length l.sets) l.level;
  keeps : Extends l.initial.sets l.sets;
  names : NamesBelow (length l.names) l.initial.sets → NamesBelow (length l.names) l.sets;
  same_end : l.level.end ≡ l.initial.level.end;
  same : (macros : Macros) (later : Sets) → IsTable l.names l.table macros → NamesBelow (length l.names) l.initial.sets → Extends l.sets later → (left : ℕ) → level_meaning (record { macros = macros; texts = l.names }) later l.initial.level left ≡ level_meaning (record { macros = macros; texts = l.names }) later l.level left;
}

abbrev pub decreases-loop-x : goal.decreases-loop-x
decreases-loop-x l = length l.level.rest.items
