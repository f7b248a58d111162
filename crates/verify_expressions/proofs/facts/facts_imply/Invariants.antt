use Rattle.std.proofs.Common.{take}
use Rattle.verify_logic.specs.States.{FactsImply}
use Rattle.verify_expressions.proofs.facts.facts_imply.Given as goal

abbrev pub invariant-loop-n : goal.invariant-loop-n
invariant-loop-n l = FactsImply l.xs (take l.n l.ys)
