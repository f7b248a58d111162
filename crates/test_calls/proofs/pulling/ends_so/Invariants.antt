use Rattle.pp.specs.Stream.{IsStream}
use Rattle.test_calls.proofs.pulling.ends_so.Given as goal

abbrev pub invariant-loop : goal.invariant-loop
invariant-loop l = IsStream l.names l.pp
