use Rattle.std.proofs.Common.{◌≡◌, ◌+◌, ◌≤◌, arith}
use Rattle.std.specs.Prelude.{Bool, true, false}
use Rattle.interp_store.specs.layer.Views.{node_of}
use Rattle.cabs.specs.inside.Standing.{Knows}
use Rattle.cabs.proofs.Told.{exactly, known, meets_at_told, same_history, stands_told}
use Rattle.cabs.proofs.Ticking.{stands_rested, run_stops, stops_by, tick_goes, tick_stopping}
use Rattle.cabs.proofs.Showing.{shown_on, shown_until, tick_shown}
use Rattle.cabs.proofs.running.tick.Goals as goal

never_both : (b : Bool) → b ≡ false → b ≡ true → ⊥
never_both b e h = cc (e, h)

pub returns-in-Err-clause-meets : goal.returns-in-Err-clause-meets
returns-in-Err-clause-meets g c b p all o r =
    let k = c.args.spent.now in
    let le : k ≤ c.args.limit = omega (arith, c.requires.room) in
    let T = Knows b (g.O.Observer.told c.settle.new.observer) in
    run_stops T p all o k c.args.limit c.in-Err.run' _ _ le (stops_by T p all o k c.in-Err.run' _ _ (c.in-Err.ensures.meets b p (λ n. all (n + k)) o r.stands))

pub returns-then-is_whole-clause-meets : goal.returns-then-is_whole-clause-meets
returns-then-is_whole-clause-meets g c b p all o r =
    let k = c.args.spent.now in
    let met = c.in-Ok.ensures.meets b p (λ n. all (n + k)) o r.stands in
    let T = Knows b (g.O.Observer.told c.settle.new.observer) in
    let here = stands_rested T p (λ n. all (n + k)) o _ _ _ _ met.0 c.rest_before.ensures in
    let h = here.history in
    meets_at_told (λ g. g ≡ h) T (same_history T h here.told) p o all _ _ _ _ _ (c.at_once.ensures.meets h p all o _ r.grows (exactly T p (λ n. all (n + k)) o _ _ _ here) met.1)

pub returns-in-Ok-take_tick-clause-meets : goal.returns-in-Ok-take_tick-clause-meets
returns-in-Ok-take_tick-clause-meets g c b p all o r =
    let k = c.args.spent.now in
    let met = c.in-Ok.ensures.meets b p (λ n. all (n + k)) o r.stands in
    let T = g.O.Observer.told c.settle.new.observer in
    let U = g.O.Observer.told c.take_tick.new.observer in
    let here = stands_told (Knows b T) (Knows b U) (known b T U (λ h. h) c.in-Ok-take_tick.ensures.told) p o (λ n. all (n + k)) _ _ _ met.0 in
    tick_goes (Knows b U) p all o k c.settle.new.interpreter (node_of c.in-Ok.node) _ here met.1 r.grows c.take_tick.new.interpreter c.in-Ok-take_tick.then c.in-Ok-take_tick.ensures.tally c.in-Ok-take_tick.ensures.kept c.in-Ok-take_tick.ensures.program c.in-Ok-take_tick.ensures.takes

pub returns-in-Err-take_tick-clause-meets : goal.returns-in-Err-take_tick-clause-meets
returns-in-Err-take_tick-clause-meets g c b p all o r =
    let k = c.args.spent.now in
    let met = c.in-Ok.ensures.meets b p (λ n. all (n + k)) o r.stands in
    let le : k + 1 ≤ c.args.limit = omega (arith, c.requires.room) in
    let T = g.O.Observer.told c.settle.new.observer in
    let U = g.O.Observer.told c.take_tick.new.observer in
    let V = Knows b (g.O.Observer.told c.finish.new.observer) in
    let here = stands_told (Knows b T) (Knows b U) (known b T U (λ h. h) c.in-Err-take_tick.ensures.told) p o (λ n. all (n + k)) _ _ _ met.0 in
    run_stops V p all o (k + 1) c.args.limit _ _ _ le (stops_by V p all o (k + 1) _ _ _
    (c.finish.ensures.meets b p (λ n. all (n + (k + 1))) o (tick_stopping (Knows b U) p all o k c.settle.new.interpreter (node_of c.in-Ok.node) _ here met.1 r.grows c.take_tick.new.interpreter c.in-Err-take_tick.stop c.in-Err-take_tick.ensures.tally c.in-Err-take_tick.ensures.kept c.in-Err-take_tick.ensures.takes)))

pub returns-in-Err-clause-shows : goal.returns-in-Err-clause-shows
returns-in-Err-clause-shows g c b p all o r a s =
    let k = c.args.spent.now in
    let le : k ≤ c.args.limit = omega (arith, c.requires.room) in
    let S = g.O.Observer.shown c.args.observer.now in
    let U = g.O.Observer.shown c.settle.new.observer in
    let T = Knows b (g.O.Observer.told c.settle.new.observer) in
    shown_until U all k c.args.limit le (shown_on S U all k c.in-Err.ensures.shown s) T p o c.in-Err.run' _ _ (c.in-Err.ensures.meets b p (λ n. all (n + k)) o r.stands)

pub returns-then-is_whole-clause-shows : goal.returns-then-is_whole-clause-shows
returns-then-is_whole-clause-shows g c b p all o r a s = absurd (never_both _ (c.is_whole.ensures.asked (c.in-Ok.ensures.always a)) c.if-is_whole.true)

pub returns-in-Ok-take_tick-clause-shows : goal.returns-in-Ok-take_tick-clause-shows
returns-in-Ok-take_tick-clause-shows g c b p all o r a s =
    let k = c.args.spent.now in
    let met = c.in-Ok.ensures.meets b p (λ n. all (n + k)) o r.stands in
    let T = Knows b (g.O.Observer.told c.settle.new.observer) in
    let S = g.O.Observer.shown c.args.observer.now in
    let U = g.O.Observer.shown c.take_tick.new.observer in
    tick_shown T S U p all o k c.settle.new.interpreter (node_of c.in-Ok.node) _ met.0 (λ l h. c.in-Ok-take_tick.ensures.shown l (c.in-Ok.ensures.shown l h)) s

pub returns-in-Err-take_tick-clause-shows : goal.returns-in-Err-take_tick-clause-shows
returns-in-Err-take_tick-clause-shows g c b p all o r a s =
    let k = c.args.spent.now in
    let met = c.in-Ok.ensures.meets b p (λ n. all (n + k)) o r.stands in
    let le : k + 1 ≤ c.args.limit = omega (arith, c.requires.room) in
    let T = Knows b (g.O.Observer.told c.settle.new.observer) in
    let V = Knows b (g.O.Observer.told c.finish.new.observer) in
    let Told = g.O.Observer.told c.settle.new.observer in
    let Behind = g.O.Observer.told c.take_tick.new.observer in
    let S = g.O.Observer.shown c.args.observer.now in
    let U = g.O.Observer.shown c.finish.new.observer in
    let here = stands_told T (Knows b Behind) (known b Told Behind (λ h. h) c.in-Err-take_tick.ensures.told) p o (λ n. all (n + k)) _ _ _ met.0 in
    let shows = tick_shown T S U p all o k c.settle.new.interpreter (node_of c.in-Ok.node) _ met.0 (λ l h. c.finish.ensures.shown _ (c.in-Err-take_tick.ensures.shown l (c.in-Ok.ensures.shown l h))) s in
    shown_until U all (k + 1) c.args.limit le shows V p o _ _ _
    (c.finish.ensures.meets b p (λ n. all (n + (k + 1))) o (tick_stopping (Knows b Behind) p all o k c.settle.new.interpreter (node_of c.in-Ok.node) _ here met.1 r.grows c.take_tick.new.interpreter c.in-Err-take_tick.stop c.in-Err-take_tick.ensures.tally c.in-Err-take_tick.ensures.kept c.in-Err-take_tick.ensures.takes))

pub returns-then-not-wants_ticks-clause-meets : goal.returns-then-not-wants_ticks-clause-meets
returns-then-not-wants_ticks-clause-meets g c b p all o r =
    let k = c.args.spent.now in
    let met = c.in-Ok.ensures.meets b p (λ n. all (n + k)) o r.stands in
    let T = Knows b (g.O.Observer.told c.settle.new.observer) in
    let here = met.0 in
    let h = here.history in
    meets_at_told (λ g. g ≡ h) T (same_history T h here.told) p o all _ _ _ _ _ (c.sweep.ensures.meets h p all o _ r.grows (exactly T p (λ n. all (n + k)) o _ _ _ here) met.1)
