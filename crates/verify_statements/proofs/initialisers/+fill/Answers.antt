use Rattle.verify_statements.proofs.Fills.{braces_fill, list_filled, one_more, none_more}
use Rattle.verify_statements.proofs.Fills as fills
use Rattle.verify_statements.proofs.initialisers.+fill.Goals as goal

pub braces_filled-returns : goal.braces_filled-returns
braces_filled-returns t c = braces_fill _ _ _ _ _ _ _ c.in_ok-j.ensures

pub list_filled-returns : goal.list_filled-returns
list_filled-returns t c = list_filled _ _ _ _ c.requires _ _ _ _ _ _ c.in-Some.ensures.cases.0 c.in_ok-j.ensures

pub rows_filled-loop-i-preserved : goal.rows_filled-loop-i-preserved
rows_filled-loop-i-preserved t c = record {
  below = fills.fewer c.loop-i.rest.now c.in-Some.i.now c.in-Some.more.now _ c.in-Some.ensures.cases.0 c.loop-i.invariant.below;
  leads = λ j k. c.loop-i.invariant.leads j (one_more _ _ _ _ c.requires c.loop-i.rest.now c.in-Some.i.now c.in-Some.more.now _ _ _ _ _ _ _ _ c.in-Some.ensures.cases.0 c.if-done-n.false c.in_ok-j.ensures c.hull-both.ensures.first c.hull-both.ensures.second k);
}

pub rows_filled-returns : goal.rows_filled-returns
rows_filled-returns t c = record { first = _; all = c.loop-i.invariant.leads _ (none_more _ _ _ _ c.requires c.loop-i.rest.now _ _ _ _ _ _ c.in_default.ensures.cases c.in_ok-last.ensures) }
