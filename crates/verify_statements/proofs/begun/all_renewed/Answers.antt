use Rattle.verify_logic.proofs.Begun.{none_renewed, more_renewed}
use Rattle.verify_statements.proofs.begun.all_renewed.Goals as goal

pub loop-left-preserved : goal.loop-left-preserved
loop-left-preserved c = λ o h. c.loop-left.invariant o (more_renewed _ _ _ _ _ _ _ c.in-Some.ensures c.loop-left-test.true c.in_ok-state2.ensures h)

pub returns : goal.returns
returns c = c.loop-left.invariant _ (none_renewed _ _ _ _ c.loop-left-test.false)
