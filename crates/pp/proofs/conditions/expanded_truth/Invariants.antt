use Rattle.std.proofs.Common.{◌≡◌}
use Rattle.srcset.specs.NameTable.{Texts, KeepsNumbers}
use Rattle.macros.specs.Macro.{Macros}
use Rattle.macros.specs.Table.{IsTable}
use Rattle.pp_expand.specs.Streams.{size_left}
use Rattle.pp.proofs.TruthLemmas.{IsRead}
use Rattle.pp.proofs.conditions.expanded_truth.Given as goal

abbrev pub invariant-loop-next : goal.invariant-loop-next
invariant-loop-next l = record {
  same : l.state ≡ record l.initial.state { budget = l.state.budget };
  reads : (macros : Macros) (texts : Texts) → IsTable l.names l.initial.state.table macros → KeepsNumbers l.names texts
      → IsRead (record { macros = macros; texts = texts }) l.names l.fn.tokens.items l.initial.state.budget l.reader l.expander l.state.budget;
}

abbrev pub decreases-loop-next : goal.decreases-loop-next
decreases-loop-next l = size_left l.expander l.state.budget
