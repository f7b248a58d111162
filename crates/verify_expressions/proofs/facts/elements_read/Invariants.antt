use Rattle.verify_logic.proofs.Facts.{FoundTo}
use Rattle.verify_expressions.proofs.facts.elements_read.Given as goal

abbrev pub invariant-loop-n : goal.invariant-loop-n
invariant-loop-n l = FoundTo l.facts l.x l.low l.n l.all
