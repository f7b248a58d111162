use Rattle.std.proofs.Common.{◌≡◌, ◌+◌, length}
use Rattle.macros.specs.Macro.{Macros}
use Rattle.macros.specs.Table.{IsTable}
use Rattle.macros_substitution.specs.HideSets.{Sets, Extends, NamesBelow}
use Rattle.macros_substitution.specs.Meaning.{hidden_all, AreIn}
use Rattle.pp_expand.specs.Expands.{ending_of}
use Rattle.pp_expand.specs.Pulled.{pulled}
use Rattle.pp_expand.specs.inside.Pulls.{FallsTo}
use Rattle.pp_expand.proofs.pulling.pull.Given as goal

abbrev pub invariant-loop-x : goal.invariant-loop-x
invariant-loop-x l = record {
  known : AreIn (length l.sets) l.list.items;
  keeps : Extends l.initial.sets l.sets;
  names : NamesBelow (length l.names) l.initial.sets → NamesBelow (length l.names) l.sets;
  fewer : FallsTo l.initial.left (length l.initial.list.items + 1) l.left (length l.list.items);
  same : (macros : Macros) (later : Sets) → IsTable l.names l.table macros → NamesBelow (length l.names) l.initial.sets → Extends l.sets later → pulled (record { macros = macros; texts = l.names }) (hidden_all l.names later l.initial.list.items) (ending_of l.end) l.initial.left ≡ pulled (record { macros = macros; texts = l.names }) (hidden_all l.names later l.list.items) (ending_of l.end) l.left;
}

abbrev pub decreases-loop-x : goal.decreases-loop-x
decreases-loop-x l = l.left
