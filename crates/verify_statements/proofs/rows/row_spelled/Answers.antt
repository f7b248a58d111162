use Rattle.std.proofs.Common.{refl}
use Rattle.verify_statements.proofs.RowRules.{spells_more, spells_rest, spells_end}
use Rattle.verify_statements.proofs.rows.row_spelled.Goals as goal

pub loop-c-init : goal.loop-c-init
loop-c-init c = λ o h. h

pub returns-then-done-n : goal.returns-then-done-n
returns-then-done-n c = c.loop-c.invariant _ (spells_end _ _ _ _ _ _ _ c.if-done-n.true)

pub loop-c-preserved : goal.loop-c-preserved
loop-c-preserved c = λ o h. c.loop-c.invariant o (spells_more _ _ c.loop-c.rest.now c.in-Some.more.now c.in-Some.c.now _ _ _ _ _ _ _ _ _ c.in-Some.ensures.cases.0 c.if-done-n.false refl c.single_byte-v.ensures c.conversion-value.ensures c.in_ok-next.ensures h)

pub returns : goal.returns
returns c = c.loop-c.invariant _ (spells_rest _ _ c.loop-c.rest.now _ _ _ _ _ c.in_default.ensures.cases c.in_ok-last.ensures)
