use Rattle.pp.specs.Stream.{IsStream}
use Rattle.test_calls.proofs.pulling.passes_to.Given as goal

abbrev pub invariant-loop : goal.invariant-loop
invariant-loop l = IsStream l.names l.pp
