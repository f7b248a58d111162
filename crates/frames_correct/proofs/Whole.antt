-- The flat program of a sound program is in step with it.
use Rattle.std.proofs.Common.{◌≡◌, ℕ, ◌+◌, ◌*◌, ◌≤◌, List, ◌∷◌, length, refl, ap, ◌∙◌, subst, arith}
use Rattle.csem.specs.History.{Entry, trace_of}
use Rattle.tac_code.specs.Code.{Program, function_at}
use Rattle.tac_code.specs.Costs as tac_costs
use Rattle.tac_code.specs.Run.{State, running, ended, run, start}
use Rattle.tac_code.specs.Sound.{AreBytes}
use Rattle.frames_code.specs.Code as flat_code
use Rattle.frames_code.specs.Costs as frame_costs
use Rattle.frames_code.specs.Run as flat
use Rattle.frames.specs.Layout.{starts_of}
use Rattle.frames.specs.Translated.{flat_function, flat_program}
use Rattle.frames.specs.Flattened.{InStep, IsAt, CostsNoMore, HasItsCalls}
use Rattle.frames.proofs.Whole.{flat_is_sound, each_is_code}
use Rattle.frames_correct.specs.Matched.{Alike}
use Rattle.frames_correct.specs.Laws.{StepFollows, StartsMatched, FlatIsInStep, FlatIsFlattened}
use Rattle.frames_correct.proofs.Lists.{length_map}
use Rattle.frames_correct.proofs.Frames.{functions_same}
use Rattle.frames_correct.proofs.Ground.{IsMadeOf, is_made}
use Rattle.frames_correct.proofs.Steps as steps
use Rattle.frames_correct.proofs.Start.{start_matched}
use Rattle.frames_correct.proofs.Runs.{CallsAt, Along, GoesAlong, there, goes_along}

pub starts_matched : StartsMatched
starts_matched q sound input bytes = start_matched q (flat_program q) (is_made q sound) input bytes

pub step_follows : StepFollows
step_follows q sound t s m = steps.step_follows q (flat_program q) (is_made q sound) t s m

module _ (q : Program) (f : flat_code.Program) (g : IsMadeOf q f) (input : List ℕ) (bytes : AreBytes input) where
  abbrev t : State
  t = start q input

  abbrev s : flat.State
  s = flat.start f input

  along : (n : ℕ) → GoesAlong q f t s n (run q n t)
  along n = goes_along q f g n t s (start_matched q f g input bytes)

  -- main has no parameters, so that its beginning costs the same
  costs_begin : tac_costs.entry_cost (function_at q q.main) ≡ 42
  costs_begin = ap (λ ps. 42 + 6 * length ps) g.sound.main_takes_nothing

  costs : (n m : ℕ) → frame_costs.spent f m s ≤ tac_costs.spent q n t → CostsNoMore q f input n m
  costs n m le = omega (arith, le, costs_begin)

  calls : (n m : ℕ) → ((j : ℕ) (u : flat.State) → j ≤ m → flat.run f j s ≡ flat.running u → CallsAt q f t n u) → HasItsCalls q f input n m
  calls n m each j u le e = let c = each j u le e in (c.at, c.below, (c.state, c.is, c.calls.0, c.calls.1))

  goes_on : (n : ℕ) (u : State) → run q n t ≡ running u → (m : ℕ) × (n ≤ m) × ((v : flat.State) × (flat.run f m s ≡ flat.running v) × IsAt v u) × CostsNoMore q f input n m × HasItsCalls q f input n m
  goes_on n u e =
      let a : Along q f t s n (running u) = subst (GoesAlong q f t s n) e (along n) in
      let at = there q f g u (flat.run f a.count s) a.alike in
      let m = at.matched in
      (a.count, a.below, (at.state, at.is, (m.trace, m.input, functions_same q (u.call ∷ u.waiting) (at.state.frame ∷ at.state.waiting) u.store m.frames)), costs n a.count a.costs, calls n a.count a.calls)

  ended_there : (status : ℕ) (left : List ℕ) (history : List Entry) (r : flat.Progress) → Alike q f (ended status left history) r → r ≡ flat.ended status left (trace_of history)
  ended_there status left history (flat.running v) h = absurd h
  ended_there status left history flat.stuck h = absurd h
  ended_there status left history (flat.ended status2 left2 trace) h =
      ap (λ k. flat.ended k left2 trace) h.0 ∙ (ap (λ k. flat.ended status k trace) h.1 ∙ ap (flat.ended status left) h.2)

  ends : (n status : ℕ) (left : List ℕ) (history : List Entry) → run q n t ≡ ended status left history → (m : ℕ) × (flat.run f m s ≡ flat.ended status left (trace_of history)) × CostsNoMore q f input n m × HasItsCalls q f input n m
  ends n status left history e =
      let a : Along q f t s n (ended status left history) = subst (GoesAlong q f t s n) e (along n) in
      (a.count, ended_there status left history (flat.run f a.count s) a.alike, costs n a.count a.costs, calls n a.count a.calls)

  pub in_step : InStep q f input
  in_step = record { goes_on = goes_on; ends = ends }

pub flat_is_in_step : FlatIsInStep
flat_is_in_step q sound input bytes = in_step q (flat_program q) (is_made q sound) input bytes

pub flat_is_flattened : FlatIsFlattened
flat_is_flattened q sound = record {
  sound = flat_is_sound q sound;
  in_step = flat_is_in_step q sound;
  statics = refl;
  main = refl;
  count = length_map (flat_function (starts_of q)) q.functions;
  each = each_is_code q;
}
