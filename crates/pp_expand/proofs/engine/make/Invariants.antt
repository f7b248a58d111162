use Rattle.std.proofs.Common.{◌≡◌, ◌+◌, ◌*◌, ◌≤◌, length}
use Rattle.srcset.specs.NameTable.{NumbersOnce}
use Rattle.macros.specs.Macro.{Macros}
use Rattle.macros.specs.Table.{IsTable}
use Rattle.macros_substitution.specs.HideSets.{Sets, Extends, NamesBelow}
use Rattle.pp_expand.specs.Expansion.{Replacement}
use Rattle.pp_expand.specs.Pulled.{expanding, made_by}
use Rattle.pp_expand.specs.Meaning.{LevelIn}
use Rattle.pp_expand.specs.inside.Turns.{IsTask}
use Rattle.pp_expand.specs.inside.Waits.{the_rest, level_behind, weights, WaitingsIn}
use Rattle.pp_expand.proofs.engine.make.Given as goal

abbrev pub invariant-loop-alloc : goal.invariant-loop-alloc
invariant-loop-alloc l = record {
  level_known : LevelIn (length l.sets) l.level;
  waiting_known : WaitingsIn (length l.sets) l.waiting.items;
  keeps : Extends l.fn.sets l.sets;
  names_below : NamesBelow (length l.names) l.fn.sets → NamesBelow (length l.names) l.sets;
  fewer : l.left ≤ l.initial.left;
  same : (macros : Macros) (later : Sets) (r : Replacement) → IsTask l.names later l.fn.task l.fn.list.items r → IsTable l.names l.table macros → NumbersOnce l.names → NamesBelow (length l.names) l.fn.sets → Extends l.sets later → level_behind (record { macros = macros; texts = l.names }) the_rest later l.waiting.items l.level l.left ≡ made_by (expanding (record { macros = macros; texts = l.names })) r l.initial.left;
}

abbrev pub decreases-loop-alloc : goal.decreases-loop-alloc
decreases-loop-alloc l = 129 * l.left + weights l.waiting.items
