use Rattle.std.proofs.Common.{◌≡◌, ◌∙◌, ap}
use Rattle.interp_store.specs.layer.Views.{step_of}
use Rattle.cabs.specs.inside.Standing.{Knows}
use Rattle.cabs.proofs.Told.{exactly, same_history, settle_told}
use Rattle.cabs.proofs.Ticking.{stands_as, falls}
use Rattle.cabs.proofs.running.settle.Goals as goal

pub loop-next-preserved : goal.loop-next-preserved
loop-next-preserved g c = record {
  quiet = c.in-Ok.ensures.counts ∙ c.loop-next.invariant.quiet;
  stands = λ b p whole o s. c.in-Ok.ensures.meets b p whole o (c.loop-next.invariant.stands b p whole o s);
  shown = λ objects s. c.in-Ok.ensures.shown objects (c.loop-next.invariant.shown objects s);
  always = λ a. c.in-Ok.ensures.always (c.loop-next.invariant.always a);
}

pub returns-in-Enters-clause-meets : goal.returns-in-Enters-clause-meets
returns-in-Enters-clause-meets g c b p whole o s =
    let T = Knows b (g.O.Observer.told c.loop-next.observer) in
    let here = stands_as T p whole o _ _ _ _ (ap step_of c.in-Enters.is) (c.loop-next.invariant.stands b p whole o s) in
    let h = here.history in
    settle_told (λ g. g ≡ h) T (same_history T h here.told) p o whole _ _ _ (c.reach.ensures.meets h p whole o (exactly T p whole o _ _ _ here))

pub returns-in-Err-clause-meets : goal.returns-in-Err-clause-meets
returns-in-Err-clause-meets g c b p whole o s = c.in-Err.ensures.meets b p whole o (c.loop-next.invariant.stands b p whole o s)

pub loop-next-smaller : goal.loop-next-smaller
loop-next-smaller g c = falls _ c.loop-next.next _ _ c.in_default.not-Enters c.in-Ok.ensures.nears
