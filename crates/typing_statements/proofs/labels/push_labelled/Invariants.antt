use Rattle.std.proofs.Common.{◌≡◌, ◌++◌, map, take}
use Rattle.typing_statements.specs.inside.Pieces.{label_statement}
use Rattle.typing_statements.proofs.labels.push_labelled.Given as goal

abbrev pub invariant-loop-label : goal.invariant-loop-label
invariant-loop-label l = (l.labels.items ≡ l.initial.labels.items ++ take l.label-index l.own) × (l.all.items ≡ l.initial.all.items ++ map label_statement (take l.label-index l.own))
