use Rattle.srcset.specs.NameTable.{Texts, KeepsNumbers}
use Rattle.macros.specs.Macro.{Macros}
use Rattle.macros.specs.Table.{IsTable}
use Rattle.pp_expand.specs.Streams.{size_left}
use Rattle.pp.specs.Left.{IsGoing}
use Rattle.pp.proofs.RunLemmas.{Reaches}
use Rattle.pp.proofs.pulling.refusal_by.Given as goal

abbrev pub invariant-behind : goal.invariant-behind
invariant-behind l =
    (macros : Macros) (texts : Texts) → IsTable l.names l.table macros → KeepsNumbers l.names texts → IsGoing l.names l.initial.run
    → Reaches (record { macros = macros; texts = texts }) l.names l.initial.run l.run l.initial.budget l.budget

abbrev pub decreases-behind : goal.decreases-behind
decreases-behind l = size_left l.run l.budget
