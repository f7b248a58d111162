use Rattle.verify_statements.proofs.RowRules.{next_begins, last_begins}
use Rattle.verify_statements.proofs.rows.row_begun.Goals as goal

pub loop-i-init : goal.loop-i-init
loop-i-init c = λ o h. h

pub loop-i-preserved : goal.loop-i-preserved
loop-i-preserved c = λ o h. c.loop-i.invariant o (next_begins _ c.loop-i.rest.now c.in-Some.i.now c.in-Some.more.now _ _ _ _ _ _ c.in-Some.ensures.cases.0 c.if-done-n.false c.in_ok-next.ensures h)

pub returns : goal.returns
returns c = c.loop-i.invariant _ (last_begins _ c.loop-i.rest.now _ _ _ _ _ c.in_default.ensures.cases c.in_ok-last.ensures)
