use Rattle.std.proofs.Common.{map, drop}
use Rattle.typing_statements.specs.Views.{label_of}
use Rattle.typing_statements.proofs.LabelLists.{Read}
use Rattle.typing_statements.proofs.labels.no_label_twice.Given as goal

abbrev pub invariant-loop-label : goal.invariant-loop-label
invariant-loop-label l = Read (map label_of l.labels) (map label_of (drop l.label-index l.labels)) l.values.keys
