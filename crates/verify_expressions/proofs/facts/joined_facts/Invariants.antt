use Rattle.verify_logic.specs.States.{FactsImply}
use Rattle.verify_expressions.proofs.facts.joined_facts.Given as goal

abbrev pub invariant-loop-n : goal.invariant-loop-n
invariant-loop-n l = record { first : FactsImply l.xs l.out.items; second : FactsImply l.ys l.out.items }
