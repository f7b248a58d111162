use Rattle.verify_logic.specs.States.{Forgets}
use Rattle.verify_expressions.proofs.facts.forgotten.Given as goal

abbrev pub invariant-loop-n : goal.invariant-loop-n
invariant-loop-n l = Forgets l.x l.facts l.out.items
