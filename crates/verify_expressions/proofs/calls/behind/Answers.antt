use Rattle.verify_expressions.proofs.Summaries.{cuts_count}
use Rattle.verify_expressions.proofs.calls.behind.Goals as goal

pub returns : goal.returns
returns c = cuts_count c.args.scope.now.outer.now c.args.scope.now.objects.now _ _ _ c.in-Some.ensures c.in_ok-state.ensures
