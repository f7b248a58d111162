use Rattle.verify_statements.proofs.RowRules.{clears_more, clears_end}
use Rattle.verify_statements.proofs.rows.row_cleared.Goals as goal

pub loop-index-init : goal.loop-index-init
loop-index-init c = λ o h. h

pub loop-index-preserved : goal.loop-index-preserved
loop-index-preserved c = λ o h. c.loop-index.invariant o (clears_more _ _ _ _ _ _ _ _ _ c.loop-index-test.true c.single_index-at.ensures c.single-zero.ensures c.in_ok-next.ensures h)

pub returns : goal.returns
returns c = c.loop-index.invariant _ (clears_end _ _ _ _ _ c.loop-index-test.false)
