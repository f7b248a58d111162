use Rattle.std.proofs.Common.{refl}
use Rattle.verify_logic.proofs.StatementRules.{branch_rule}
use Rattle.verify_statements.proofs.Loops.{whole_while, loops_rule, while_as, do_as, for_as, while_turn, for_turn, no_turn, leads_from, unrolled_as}
use Rattle.verify_statements.proofs.Steps.{begun_some, follows_some, branches_some, fewer, one_less, none_left, begins_as, evaluates_more, loops_some}
use Rattle.verify_statements.proofs.Switches.{label_one, statement_one, label_follows, enters_all, switch_as}
use Rattle.verify_statements.proofs.Switches as enters
use Rattle.verify_statements.proofs.statements.+execute.Goals as goal

pub block-returns : goal.block-returns
block-returns t c = begun_some _ _ _ _ _ _ c.statements.result c.in_ok-state2.ensures c.statements.ensures

pub followed-returns : goal.followed-returns
followed-returns t c = follows_some _ _ _ _ _ c.joined_ways.result refl c.in_ok-next.ensures c.joined_ways.ensures.first c.joined_ways.ensures.second

pub branch-returns : goal.branch-returns
branch-returns t c = branch_rule _ _ _ _ _ _ _ _ c.in_ok-tested.ensures c.in_ok-left.ensures c.in_ok-normal.ensures.first c.in_ok-normal.ensures.second

pub branches-returns : goal.branches-returns
branches-returns t c = branches_some _ _ _ _ _ _ _ _ _ c.joined_ways.result c.in_ok-tested.ensures c.in_ok-left.ensures c.in_ok-right.ensures c.joined_ways.ensures.first c.joined_ways.ensures.second

pub labelled-returns : goal.labelled-returns
labelled-returns t c = label_follows _ _ _ _ _ _ _ _ c.in_ok-copy.ensures c.in_ok-normal.ensures.first c.in_ok-normal.ensures.second refl c.in_ok-next.ensures

pub entered-returns-in_ok-reached : goal.entered-returns-in_ok-reached
entered-returns-in_ok-reached t c = label_one _ _ _ _ _ _ c.is_label-label.ensures c.if-label.true c.in_ok-reached.ensures

pub entered-returns-in_ok-next : goal.entered-returns-in_ok-next
entered-returns-in_ok-next t c = statement_one _ _ _ _ _ _ c.is_label-label.ensures c.if-label.false c.in_ok-next.ensures

pub cases-loop-a-preserved : goal.cases-loop-a-preserved
cases-loop-a-preserved t c = record {
  below = fewer c.loop-a.rest.now c.in-Some.a.now c.in-Some.more.now _ c.in-Some.ensures.cases.0 c.loop-a.invariant.below;
  leads = λ out k. c.loop-a.invariant.leads out (enters.one_less _ _ c.loop-a.rest.now c.in-Some.a.now c.in-Some.more.now _ _ out c.in-Some.ensures.cases.0 c.in_ok-next.ensures k);
}

pub cases-returns : goal.cases-returns
cases-returns t c = enters_all _ _ _ _ _ (c.loop-a.invariant.leads _ (enters.none_left _ _ c.loop-a.rest.now _ c.in_default.ensures.cases))

pub switched-returns : goal.switched-returns
switched-returns t c = switch_as _ _ _ _ _ _ _ _ _ _ _ _ _ _ c.in_ok-v.ensures c.in_ok-entry.ensures c.in_ok-left.ensures c.in_ok-both.ensures.first c.in_ok-both.ensures.second c.any_default-any.ensures c.in_ok-out.ensures.left c.in_ok-out.ensures.passed

pub body-returns : goal.body-returns
body-returns t c = c.in_ok-left.ensures

pub checked-returns : goal.checked-returns
checked-returns t c = whole_while _ _ _ _ _ _ _ _ _ _ (c.imply-starts.ensures c.if-not-starts.false) c.in_ok-again.ensures c.in_ok-tested.ensures c.in_ok-left.ensures (c.imply-ends.ensures c.if-not-ends.false) (c.imply-continues.ensures c.if-not-continues.false) c.in_ok-out.ensures.first c.in_ok-out.ensures.second

pub looped-returns-in-Some : goal.looped-returns-in-Some
looped-returns-in-Some t c = loops_some _ _ _ _ _ _ _ c.in-Some.left c.in-Some.is c.in_ok-first.ensures c.in_ok-quick.ensures

pub unrolled_turn-returns-then-open : goal.unrolled_turn-returns-then-open
unrolled_turn-returns-then-open t c = no_turn _ _ _ _ _

pub unrolled_turn-returns : goal.unrolled_turn-returns
unrolled_turn-returns t c = while_turn _ _ _ _ _ _ _ _ _ _ _ _ _ c.in_ok-copy.ensures c.in_ok-tested.ensures c.in_ok-left.ensures c.in_ok-behind.ensures.first c.in_ok-behind.ensures.second c.in_ok-out.ensures.first c.in_ok-out.ensures.second refl refl c.in_ok-all.ensures.first c.in_ok-all.ensures.second

pub unrolled-loop-turn-preserved : goal.unrolled-loop-turn-preserved
unrolled-loop-turn-preserved t c = record { leads = λ out u. c.loop-turn.invariant.leads out (c.in_ok-next.ensures.leads out u) }

pub unrolled-returns-then-not-goes_on : goal.unrolled-returns-then-not-goes_on
unrolled-returns-then-not-goes_on t c = leads_from _ _ _ _ _ _ _ c.not_left-so_far.ensures c.loop-turn.invariant.leads

pub unrolled-returns-then-not-turned : goal.unrolled-returns-then-not-turned
unrolled-returns-then-not-turned t c = leads_from _ _ _ _ _ _ _ c.not_left-so_far.ensures (λ out u. c.loop-turn.invariant.leads out (c.in_ok-next.ensures.leads out u))

pub unrolled-returns : goal.unrolled-returns
unrolled-returns t c = leads_from _ _ _ _ _ _ _ c.not_left-so_far.ensures c.loop-turn.invariant.leads

pub looped_on-returns : goal.looped_on-returns
looped_on-returns t c = unrolled_as _ _ _ _ _ _ _ _ c.in_ok-so_far.ensures c.in_ok-rest.ensures c.in_ok-left.ensures.first c.in_ok-left.ensures.second

pub unrolled_for_turn-returns-then-open : goal.unrolled_for_turn-returns-then-open
unrolled_for_turn-returns-then-open t c = no_turn _ _ _ _ _

pub unrolled_for_turn-returns : goal.unrolled_for_turn-returns
unrolled_for_turn-returns t c = for_turn _ _ _ _ _ _ _ _ _ _ _ _ _ _ _ c.in_ok-copy.ensures c.in_ok-tested.ensures c.in_ok-left.ensures c.in_ok-behind.ensures.first c.in_ok-behind.ensures.second c.in_ok-next.ensures c.in_ok-out.ensures.first c.in_ok-out.ensures.second refl refl c.in_ok-all.ensures.first c.in_ok-all.ensures.second

pub unrolled_for-loop-turn-preserved : goal.unrolled_for-loop-turn-preserved
unrolled_for-loop-turn-preserved t c = record { leads = λ out u. c.loop-turn.invariant.leads out (c.in_ok-next.ensures.leads out u) }

pub unrolled_for-returns-then-not-goes_on : goal.unrolled_for-returns-then-not-goes_on
unrolled_for-returns-then-not-goes_on t c = leads_from _ _ _ _ _ _ _ c.not_left-so_far.ensures c.loop-turn.invariant.leads

pub unrolled_for-returns-then-not-turned : goal.unrolled_for-returns-then-not-turned
unrolled_for-returns-then-not-turned t c = leads_from _ _ _ _ _ _ _ c.not_left-so_far.ensures (λ out u. c.loop-turn.invariant.leads out (c.in_ok-next.ensures.leads out u))

pub unrolled_for-returns : goal.unrolled_for-returns
unrolled_for-returns t c = leads_from _ _ _ _ _ _ _ c.not_left-so_far.ensures c.loop-turn.invariant.leads

pub looped_for_on-returns : goal.looped_for_on-returns
looped_for_on-returns t c = unrolled_as _ _ _ _ _ _ _ _ c.in_ok-so_far.ensures c.in_ok-rest.ensures c.in_ok-left.ensures.first c.in_ok-left.ensures.second

pub while_loop-returns : goal.while_loop-returns
while_loop-returns t c = while_as _ _ _ _ _ c.in_ok-left.ensures

pub do_loop-returns : goal.do_loop-returns
do_loop-returns t c = do_as _ _ _ _ _ _ _ _ c.in_ok-first.ensures c.in_ok-kept.ensures.first c.in_ok-kept.ensures.second c.in_ok-again.ensures c.in_ok-left.ensures.first c.in_ok-left.ensures.second

pub checked_for-returns : goal.checked_for-returns
checked_for-returns t c = loops_rule _ _ _ _ _ _ _ _ _ _ _ _ (c.imply-starts.ensures c.if-not-starts.false) c.in_ok-again.ensures c.in_ok-tested.ensures c.in_ok-left.ensures c.in_ok-behind.ensures.first c.in_ok-behind.ensures.second (evaluates_more _ _ _ _ _ c.in_ok-next.ensures (c.imply-holds.ensures c.if-not-holds.false)) c.in_ok-out.ensures.first c.in_ok-out.ensures.second

pub looped_for-returns-in-Some : goal.looped_for-returns-in-Some
looped_for-returns-in-Some t c = loops_some _ _ _ _ _ _ _ c.in-Some.left c.in-Some.is c.in_ok-first.ensures c.in_ok-quick.ensures

pub for_loop-returns : goal.for_loop-returns
for_loop-returns t c = for_as _ _ _ _ _ _ _ _ _ _ c.in_ok-before.ensures (c.imply-breaks.ensures c.if-not-breaks.false) (c.imply-continues.ensures c.if-not-continues.false) (c.imply-returns.ensures c.if-not-returns.false) c.in_ok-started.ensures c.in_ok-left.ensures

pub statements-loop-a-preserved : goal.statements-loop-a-preserved
statements-loop-a-preserved t c = record {
  below = fewer c.loop-a.rest.now c.in-Some.a.now c.in-Some.more.now _ c.in-Some.ensures.cases.0 c.loop-a.invariant.below;
  leads = λ out k. c.loop-a.invariant.leads out (one_less _ c.loop-a.rest.now c.in-Some.a.now c.in-Some.more.now _ _ out c.in-Some.ensures.cases.0 c.in_ok-next.ensures k);
}

pub statements-returns : goal.statements-returns
statements-returns t c = begins_as _ _ _ _ _ refl (c.loop-a.invariant.leads _ (none_left _ c.loop-a.rest.now _ c.in_default.ensures.cases))
