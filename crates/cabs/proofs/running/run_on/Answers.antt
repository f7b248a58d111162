use Rattle.std.proofs.Common.{◌+◌, ◌≡◌, ◌∙◌, arith}
use Rattle.cabs.specs.inside.Standing.{Knows}
use Rattle.cabs.proofs.Ticking.{runs_rested, used_up, settle_ends}
use Rattle.cabs.proofs.Showing.{shown_on, shown_until, shown_all, shown_as}
use Rattle.cabs.proofs.running.run_on.Goals.{in-Ok-settle, in-Err-settle}
use Rattle.cabs.proofs.running.run_on.Goals as goal

pub returns-clause-meets : goal.returns-clause-meets
returns-clause-meets g c b p all o r =
    let T = Knows b (g.O.Observer.told c.settle.new.observer) in
    let U = Knows b (g.O.Observer.told c.loop-spent.observer) in
    let runs = c.loop-spent.invariant.runs b p all o r in
    let end : c.loop-spent.spent ≡ c.args.ticks = omega (arith, c.loop-spent.invariant.allowed, c.loop-spent-test.false) in
    elim c.match-settle.branch [
      | in-Ok-settle w ↦ used_up T p all o c.loop-spent.spent c.args.ticks c.settle.new.interpreter _ c.match-settle.result _ end w.result-is (w.in-Ok-settle.ensures.meets b p (λ n. all (n + c.loop-spent.spent)) o runs.stands)
      | in-Err-settle w ↦ settle_ends U T p all o c.loop-spent.spent c.args.ticks c.loop-spent.interpreter c.settle.new.interpreter _ _ c.match-settle.result _ _ end w.result-is runs
          (w.in-Err-settle.ensures.meets b p (λ n. all (n + c.loop-spent.spent)) o runs.stands)
    ]

pub loop-spent-preserved : goal.loop-spent-preserved
loop-spent-preserved g c =
    let v = c.loop-spent.invariant in
    record {
      quiet = c.in-Ok.ensures.counts ∙ c.rest_at-due.ensures.not_counted ∙ v.quiet;
      allowed = c.in-Ok.ensures.spends.1;
      runs = λ b p all o r. c.in-Ok.ensures.meets b p all o (runs_rested (Knows b (g.O.Observer.told c.loop-spent.observer)) p all o _ _ _ _ _ (v.runs b p all o r) c.rest_at-due.ensures);
      shows = λ b p all o r a s. c.in-Ok.ensures.shows b p all o (runs_rested (Knows b (g.O.Observer.told c.loop-spent.observer)) p all o _ _ _ _ _ (v.runs b p all o r) c.rest_at-due.ensures) (v.always a) (v.shows b p all o r a s);
      always = λ a. c.in-Ok.ensures.always (v.always a);
    }

pub returns-in-Err-clause-meets : goal.returns-in-Err-clause-meets
returns-in-Err-clause-meets g c b p all o r =
    c.in-Err.ensures.meets b p all o (runs_rested (Knows b (g.O.Observer.told c.loop-spent.observer)) p all o _ _ _ _ _ (c.loop-spent.invariant.runs b p all o r) c.rest_at-due.ensures)

pub returns-in-Err-clause-shows : goal.returns-in-Err-clause-shows
returns-in-Err-clause-shows g c b p all o r a s =
    let v = c.loop-spent.invariant in
    c.in-Err.ensures.shows b p all o (runs_rested (Knows b (g.O.Observer.told c.loop-spent.observer)) p all o _ _ _ _ _ (v.runs b p all o r) c.rest_at-due.ensures) (v.always a) (v.shows b p all o r a s)

pub returns-clause-shows : goal.returns-clause-shows
returns-clause-shows g c b p all o r a s =
    let v = c.loop-spent.invariant in
    let S = g.O.Observer.shown c.settle.new.observer in
    let T = Knows b (g.O.Observer.told c.settle.new.observer) in
    let runs = v.runs b p all o r in
    let end : c.loop-spent.spent ≡ c.args.ticks = omega (arith, v.allowed, c.loop-spent-test.false) in
    let shows = shown_on (g.O.Observer.shown c.loop-spent.observer) S all c.loop-spent.spent c.settle.ensures.shown (v.shows b p all o r a s) in
    elim c.match-settle.branch [
      | in-Ok-settle w ↦ shown_all S all c.loop-spent.spent c.args.ticks c.match-settle.result end w.result-is shows
      | in-Err-settle w ↦ shown_as S all c.args.ticks _ c.match-settle.result w.result-is
          (shown_until S all c.loop-spent.spent c.args.ticks v.allowed shows T p o _ _ _ (w.in-Err-settle.ensures.meets b p (λ n. all (n + c.loop-spent.spent)) o runs.stands))
    ]
