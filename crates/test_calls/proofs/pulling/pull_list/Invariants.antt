use Rattle.pp.specs.Stream.{IsStream}
use Rattle.test_calls.proofs.pulling.pull_list.Given as goal

abbrev pub invariant-loop-wanted : goal.invariant-loop-wanted
invariant-loop-wanted l = IsStream l.names l.pp
