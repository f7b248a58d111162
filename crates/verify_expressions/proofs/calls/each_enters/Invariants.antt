use Rattle.verify_expressions.proofs.Summaries.{EnteredTo}
use Rattle.verify_expressions.proofs.calls.each_enters.Given as goal

abbrev pub invariant-loop-n : goal.invariant-loop-n
invariant-loop-n l = EnteredTo l.n l.passed l.objects l.own
