use Rattle.verify_logic.specs.Calls.{HoldBelow}
use Rattle.verify_expressions.proofs.calls.first_facts.Given as goal

abbrev pub invariant-loop-m : goal.invariant-loop-m
invariant-loop-m l = HoldBelow l.n l.facts l.out.items
