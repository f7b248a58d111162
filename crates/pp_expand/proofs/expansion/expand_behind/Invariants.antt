use Rattle.std.proofs.Common.{◌≡◌, None}
use Rattle.srcset.specs.NameTable.{Texts, KeepsNumbers}
use Rattle.macros.specs.Macro.{Macros}
use Rattle.macros.specs.Table.{IsTable}
use Rattle.pp_expand.specs.Expansion.{unhidden}
use Rattle.pp_expand.specs.Expands.{ending_of}
use Rattle.pp_expand.specs.Pulled.{expanding}
use Rattle.pp_expand.specs.Streams.{list_left, Knows, size_left}
use Rattle.pp_expand.specs.Meaning.{shown_behind}
use Rattle.pp_expand.proofs.expansion.expand_behind.Given as goal

abbrev pub invariant-loop-next : goal.invariant-loop-next
invariant-loop-next l = record {
  same_end : l.expander.end ≡ l.fn.end;
  goes : l.expander.refused ≡ None;
  knows : (macros : Macros) → IsTable l.names l.table macros → Knows l.names l.expander;
  same : (macros : Macros) (texts : Texts) → IsTable l.names l.table macros → KeepsNumbers l.names texts → shown_behind l.most l.given.items (expanding (record { macros = macros; texts = texts }) (list_left texts l.expander) (ending_of l.fn.end) l.budget) ≡ shown_behind l.most l.initial.given.items (expanding (record { macros = macros; texts = texts }) (unhidden l.fn.list) (ending_of l.fn.end) l.initial.budget);
}

abbrev pub decreases-loop-next : goal.decreases-loop-next
decreases-loop-next l = size_left l.expander l.budget
