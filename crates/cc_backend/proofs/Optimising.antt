-- Optimised flat code behaves as before.
use Rattle.std.proofs.Common.{◌≡◌, ◌≤◌, ℕ, ◌+◌, ◌-◌, ◌*◌, List, length, map, Option, Some, None, refl, sym, ap, ◌∙◌, subst, arith}
use Rattle.std.specs.Prelude.{slice_get, option_map}
use Rattle.std.proofs.lemmas.List.{length-map}
use Rattle.std.proofs.lemmas.Option.{slice_get-map}
use Rattle.tac_code.specs.Code as tac
use Rattle.frames_code.specs.Code as flat
use Rattle.frames_code.specs.Code.{frame_bytes}
use Rattle.frames_code.specs.Run as flat_run
use Rattle.csem_events.specs.Events.{Event}
use Rattle.frames.specs.Costs as flat_costs
use Rattle.frames.specs.Costs.{function_bytes, function_bytes_in}
use Rattle.cc_backend.proofs.Plain.{same_some}
use Rattle.frames_correct.proofs.Runs.{run_both}
use Rattle.frames.specs.Flattened.{IsFlattened, IsCodeOf, behind}
use Rattle.frames_opt.specs.Simplified.{DoesTheSame, IsDefined, IsSimplified}
use Rattle.frames_layout.specs.LaidOut.{pace, IsRunning, HasDone, IsLaidOut}
use Rattle.frames_hoist.specs.Optimised.{IsOptimised}
use Rattle.cc_backend.specs.Better.{IsBetter}
use Rattle.cc_backend.specs.Forms.{IsOptimisedCodeOf, IsFormOf}
use Rattle.cc_backend.specs.Simulation.{Simulates, step_for_step}
use Rattle.cc_backend.specs.Chain.{of_plain, of_flat, anew, SimplifiedSimulatesFlat, LaidOutSimulatesFlat, OptimisedSimulatesFlat}

-- ---- runs

abbrev state_or : flat_run.State → flat_run.Progress → flat_run.State
state_or t (flat_run.running s) = s
state_or t (flat_run.ended status left trace) = t
state_or t flat_run.stuck = t

abbrev GoesOn : flat_run.Progress → Type 0
GoesOn (flat_run.running s) = Unit {0}
GoesOn (flat_run.ended status left trace) = ⊥
GoesOn flat_run.stuck = ⊥

-- defined after m steps, so after fewer too
pub defined_within : (f : flat.Program) (input : List ℕ) (j m : ℕ) → j ≤ m → IsDefined (behind f input m) → IsDefined (behind f input j)
defined_within f input j m le defined = on (behind f input j) refl
  where
    whole : behind f input m ≡ flat_run.goes_on (behind f input j) (flat_run.run f (m - j))
    whole = ap (behind f input) (let sum : m ≡ j + (m - j) = omega (arith, le) in sum) ∙ run_both f j (m - j) (flat_run.start f input)

    on : (x : flat_run.Progress) → behind f input j ≡ x → IsDefined (behind f input j)
    on (flat_run.running s) e = subst IsDefined (sym e) tt
    on (flat_run.ended status left trace) e = subst IsDefined (sym e) tt
    on flat_run.stuck e = absurd (subst (λ x. IsDefined (flat_run.goes_on x (flat_run.run f (m - j)))) e (subst IsDefined whole defined))

module _ (f g : flat.Program) (better : IsOptimised f g) (input : List ℕ) where
  -- where the one goes on, and where it ends
  pub record Goes (m : ℕ) (s : flat_run.State) : Type 0 where
    pub t : flat_run.State
    pub is : behind g input m ≡ flat_run.running t
    pub trace : t.trace ≡ s.trace
    pub left : t.input ≡ s.input
    pub calls : flat_run.active t ≡ flat_run.active s

  goes : (m : ℕ) (s : flat_run.State) → behind f input m ≡ flat_run.running s → Goes m s
  goes m s e = on (behind g input m) refl (subst (λ x. DoesTheSame x (behind g input m)) e (better.runs m input))
    where
      on : (y : flat_run.Progress) → behind g input m ≡ y → DoesTheSame (flat_run.running s) (behind g input m) → Goes m s
      on (flat_run.running t) h same =
          let both : DoesTheSame (flat_run.running s) (flat_run.running t) = subst (DoesTheSame (flat_run.running s)) h same in
          record { t = t; is = h; trace = both.0; left = both.1; calls = both.2 }
      on (flat_run.ended status left trace) h same = absurd (subst (DoesTheSame (flat_run.running s)) h same)
      on flat_run.stuck h same = absurd (subst (DoesTheSame (flat_run.running s)) h same)

  ends_too : (m status : ℕ) (left : List ℕ) (trace : List Event) → behind f input m ≡ flat_run.ended status left trace → behind g input m ≡ flat_run.ended status left trace
  ends_too m status left trace e = subst (λ x. DoesTheSame x (behind g input m)) e (better.runs m input)

  pub defined_before : (j m : ℕ) → j ≤ m → IsDefined (behind f input m) → IsDefined (behind f input j)
  defined_before = defined_within f input

  same_calls : (n : ℕ) → IsDefined (behind f input n) → (calls : List ℕ) → (of_flat g input).Calls n calls → (of_plain f input).Calls n calls
  same_calls n defined calls c = on (behind f input c.0) refl
    where
      on : (x : flat_run.Progress) → behind f input c.0 ≡ x → (of_plain f input).Calls n calls
      on (flat_run.running u) h =
          let other = goes c.0 u h in
          let same : other.t ≡ c.1 = ap (state_or c.1) (sym other.is ∙ c.3) in
          (c.0, u, c.2, h, sym other.calls ∙ (ap flat_run.active same ∙ c.4))
      on (flat_run.ended status left trace) h = absurd (subst GoesOn (sym (sym (ends_too c.0 status left trace h) ∙ c.3)) tt)
      on flat_run.stuck h = absurd (subst IsDefined h (defined_before c.0 n c.2 defined))

  pub simulates : (weight : ℕ → ℕ) (limit : ℕ) → Simulates step_for_step weight limit (of_plain f input) (of_flat g input)
  simulates weight limit = record {
    goes_on = λ n x at fit.
        let other = goes n at.0 at.1 in
        let defined : IsDefined (behind f input n) = subst IsDefined (sym at.1) tt in
        let less = better.costs n input defined in
        (n, omega arith, omega arith, omega (arith, less), (other.t, other.is, other.trace ∙ at.2, other.left ∙ at.3, other.calls ∙ at.4), same_calls n defined);
    halts = λ n x at fit.
        let other = goes n at.0 at.1 in
        let defined : IsDefined (behind f input n) = subst IsDefined (sym at.1) tt in
        let less = better.costs n input defined in
        (n, omega (arith, less), (other.t, other.is, other.trace ∙ at.2, other.left ∙ at.3, other.calls ∙ at.4), same_calls n defined);
    ends = λ n x at fit.
        let defined : IsDefined (behind f input n) = subst IsDefined (sym at) tt in
        let less = better.costs n input defined in
        (n, omega (arith, less), ends_too n x.status x.input x.trace at, same_calls n defined);
  }

pub optimised_simulates_flat : OptimisedSimulatesFlat
optimised_simulates_flat weight limit f g input better = simulates f g better input weight limit

-- ---- simplified

module _ (f g : flat.Program) (simple : IsSimplified f g) (input : List ℕ) where
  abbrev GoesTo : flat_run.State → ℕ → Type 0
  GoesTo s m = (t : flat_run.State) × ((behind g input m ≡ flat_run.running t) × ((t.trace ≡ s.trace) × ((t.input ≡ s.input) × (flat_run.active t ≡ flat_run.active s))))

  simply_goes : (m : ℕ) (s : flat_run.State) → behind f input m ≡ flat_run.running s → GoesTo s m
  simply_goes m s e = on (behind g input m) refl (subst (λ x. DoesTheSame x (behind g input m)) e (simple.runs m input))
    where
      on : (y : flat_run.Progress) → behind g input m ≡ y → DoesTheSame (flat_run.running s) (behind g input m) → GoesTo s m
      on (flat_run.running t) h same =
          let both : DoesTheSame (flat_run.running s) (flat_run.running t) = subst (DoesTheSame (flat_run.running s)) h same in
          (t, (h, (both.0, (both.1, both.2))))
      on (flat_run.ended status left trace) h same = absurd (subst (DoesTheSame (flat_run.running s)) h same)
      on flat_run.stuck h same = absurd (subst (DoesTheSame (flat_run.running s)) h same)

  simply_ends : (m status : ℕ) (left : List ℕ) (trace : List Event) → behind f input m ≡ flat_run.ended status left trace → behind g input m ≡ flat_run.ended status left trace
  simply_ends m status left trace e = subst (λ x. DoesTheSame x (behind g input m)) e (simple.runs m input)

  simply_calls : (n : ℕ) → IsDefined (behind f input n) → (calls : List ℕ) → (of_plain g input).Calls n calls → (of_plain f input).Calls n calls
  simply_calls n defined calls c = on (behind f input c.0) refl
    where
      on : (x : flat_run.Progress) → behind f input c.0 ≡ x → (of_plain f input).Calls n calls
      on (flat_run.running u) h =
          let other = simply_goes c.0 u h in
          let same : other.0 ≡ c.1 = ap (state_or c.1) (sym other.1.0 ∙ c.3) in
          (c.0, u, c.2, h, sym other.1.1.1.1 ∙ (ap flat_run.active same ∙ c.4))
      on (flat_run.ended status left trace) h = absurd (subst GoesOn (sym (sym (simply_ends c.0 status left trace h) ∙ c.3)) tt)
      on flat_run.stuck h = absurd (subst IsDefined h (defined_within f input c.0 n c.2 defined))

  pub simply_simulates : (weight : ℕ → ℕ) (limit : ℕ) → Simulates step_for_step weight limit (of_plain f input) (of_plain g input)
  simply_simulates weight limit = record {
    goes_on = λ n x at fit.
        let other = simply_goes n at.0 at.1 in
        let defined : IsDefined (behind f input n) = subst IsDefined (sym at.1) tt in
        let less = simple.costs n input defined in
        (n, omega arith, omega arith, omega (arith, less), (other.0, other.1.0, other.1.1.0 ∙ at.2, other.1.1.1.0 ∙ at.3, other.1.1.1.1 ∙ at.4), simply_calls n defined);
    halts = λ n x at fit.
        let other = simply_goes n at.0 at.1 in
        let defined : IsDefined (behind f input n) = subst IsDefined (sym at.1) tt in
        let less = simple.costs n input defined in
        (n, omega (arith, less), (other.0, other.1.0, other.1.1.0 ∙ at.2, other.1.1.1.0 ∙ at.3, other.1.1.1.1 ∙ at.4), simply_calls n defined);
    ends = λ n x at fit.
        let defined : IsDefined (behind f input n) = subst IsDefined (sym at) tt in
        let less = simple.costs n input defined in
        (n, omega (arith, less), simply_ends n x.status x.input x.trace at, simply_calls n defined);
  }

pub simplified_simulates_flat : SimplifiedSimulatesFlat
simplified_simulates_flat weight limit f g input simple = simply_simulates f g simple input weight limit

-- ---- laid out anew

module _ (f g : flat.Program) (laid : IsLaidOut f g) (input : List ℕ) where
  calls_anew : (n : ℕ) (d : HasDone f g n 0 (flat_run.start f input) (flat_run.start g input)) → (calls : List ℕ) → (of_plain g input).Calls d.steps calls → (of_plain f input).Calls n calls
  calls_anew n d calls c =
      let w = d.calls c.0 c.1 c.2 c.3 in
      (w.0, w.1.0, w.1.1.0, w.1.1.1.0, sym w.1.1.1.1 ∙ c.4)

  -- where the first goes on
  pub record Anew (n : ℕ) (s : flat_run.State) : Type 0 where
    pub steps : ℕ
    pub state : flat_run.State
    pub is : behind g input steps ≡ flat_run.running state
    pub trace : state.trace ≡ s.trace
    pub left : state.input ≡ s.input
    pub calls : flat_run.active state ≡ flat_run.active s
    pub fast : n ≤ pace * steps
    pub cheap : flat_costs.spent_in_all g steps (flat_run.start g input) ≤ flat_costs.spent_in_all f n (flat_run.start f input) + 0
    pub all : (calls : List ℕ) → (of_plain g input).Calls steps calls → (of_plain f input).Calls n calls

  anew_from : (n : ℕ) (s : flat_run.State) → behind f input n ≡ flat_run.running s → Anew n s
  anew_from n s e = on (behind g input d.steps) refl (subst (λ x. DoesTheSame x (behind g input d.steps)) e d.same)
    where
      d : HasDone f g n 0 (flat_run.start f input) (flat_run.start g input)
      d = laid.does n input (subst IsDefined (sym e) tt)

      on : (y : flat_run.Progress) → behind g input d.steps ≡ y → DoesTheSame (flat_run.running s) (behind g input d.steps) → Anew n s
      on (flat_run.running t) h same =
          let both : DoesTheSame (flat_run.running s) (flat_run.running t) = subst (DoesTheSame (flat_run.running s)) h same in
          record { steps = d.steps; state = t; is = h; trace = both.0; left = both.1; calls = both.2; fast = d.fast (subst IsRunning (sym e) tt); cheap = omega (arith, d.cheap); all = calls_anew n d }
      on (flat_run.ended status left trace) h same = absurd (subst (DoesTheSame (flat_run.running s)) h same)
      on flat_run.stuck h same = absurd (subst (DoesTheSame (flat_run.running s)) h same)

  pub simulates_anew : (weight : ℕ → ℕ) (limit : ℕ) → Simulates anew weight limit (of_plain f input) (of_plain g input)
  simulates_anew weight limit = record {
    goes_on = λ n x at fit.
        let w = anew_from n at.0 at.1 in
        (w.steps, w.fast, omega arith, w.cheap, (w.state, w.is, w.trace ∙ at.2, w.left ∙ at.3, w.calls ∙ at.4), w.all);
    halts = λ n x at fit.
        let w = anew_from n at.0 at.1 in
        (w.steps, w.cheap, (w.state, w.is, w.trace ∙ at.2, w.left ∙ at.3, w.calls ∙ at.4), w.all);
    ends = λ n x at fit.
        let d = laid.does n input (subst IsDefined (sym at) tt) in
        (d.steps, omega (arith, d.cheap), subst (λ y. DoesTheSame y (behind g input d.steps)) at d.same, calls_anew n d);
  }

pub laid_out_simulates_flat : LaidOutSimulatesFlat
laid_out_simulates_flat weight limit f g input laid = simulates_anew f g laid input weight limit

-- ---- functions

module _ (f g : flat.Program) (better : IsBetter f g) where
  frames_of : map frame_bytes g.functions ≡ map frame_bytes f.functions
  frames_of = better.optimised.frames ∙ (better.laid_out.frames ∙ better.simplified.frames)

  -- a function that is there at first is there when laid out
  same_laid : (k : ℕ) → option_map frame_bytes (slice_get better.laid.functions k) ≡ option_map frame_bytes (slice_get f.functions k)
  same_laid k =
      sym (slice_get-map frame_bytes better.laid.functions k)
      ∙ (ap (λ xs. slice_get xs k) (better.laid_out.frames ∙ better.simplified.frames) ∙ slice_get-map frame_bytes f.functions k)

  pub bytes_of : (k : ℕ) (x y : flat.Function) → slice_get f.functions k ≡ Some x → slice_get g.functions k ≡ Some y → function_bytes_in y ≤ function_bytes x
  bytes_of k x y ex ey = on (slice_get better.laid.functions k) refl
    where
      on : (o : Option flat.Function) → slice_get better.laid.functions k ≡ o → function_bytes_in y ≤ function_bytes x
      on None e = let no : None ≡ Some (frame_bytes x) = ap (option_map frame_bytes) (sym e) ∙ (same_laid k ∙ ap (option_map frame_bytes) ex) in absurd (let z : ⊥ = cc in z)
      on (Some z) e = omega (arith, better.no_longer k x z ex e, better.optimised.bytes k z y e ey)

module _ (q : tac.Program) (f g : flat.Program) (better : IsBetter f g) where
  same_frames : (k : ℕ) → option_map frame_bytes (slice_get g.functions k) ≡ option_map frame_bytes (slice_get f.functions k)
  same_frames k = sym (slice_get-map frame_bytes g.functions k) ∙ (ap (λ xs. slice_get xs k) (frames_of f g better) ∙ slice_get-map frame_bytes f.functions k)

  code_too : ((k : ℕ) (a : tac.Function) (x : flat.Function) → slice_get q.functions k ≡ Some a → slice_get f.functions k ≡ Some x → IsCodeOf a x)
      → (k : ℕ) (a : tac.Function) (y : flat.Function) → slice_get q.functions k ≡ Some a → slice_get g.functions k ≡ Some y → IsOptimisedCodeOf a y
  code_too all k a y ea ey = on (slice_get f.functions k) refl
    where
      on : (o : Option flat.Function) → slice_get f.functions k ≡ o → IsOptimisedCodeOf a y
      on None e = let no : Some (frame_bytes y) ≡ None = ap (option_map frame_bytes) (sym ey) ∙ (same_frames k ∙ ap (option_map frame_bytes) e) in absurd (let z : ⊥ = cc in z)
      on (Some x) e =
          let both : Some (frame_bytes y) ≡ Some (frame_bytes x) = ap (option_map frame_bytes) (sym ey) ∙ (same_frames k ∙ ap (option_map frame_bytes) e) in
          let same : frame_bytes y ≡ frame_bytes x = same_some (frame_bytes y) (frame_bytes x) both in
          let old = all k a x ea e in
          let less : function_bytes_in y ≤ function_bytes x = bytes_of f g better k x y e ey in
          record { frame = omega (arith, same, old.frame); code = (let most = old.code in omega (arith, less, most)) }

pub optimised_form : (q : tac.Program) (f g : flat.Program) → IsFlattened q f → IsBetter f g → IsFormOf q g
optimised_form q f g flattened better = record {
  sound = better.optimised.sound (better.laid_out.sound (better.simplified.sound flattened.sound));
  statics = better.optimised.statics ∙ (better.laid_out.statics ∙ (better.simplified.statics ∙ flattened.statics));
  main = better.optimised.main ∙ (better.laid_out.main ∙ (better.simplified.main ∙ flattened.main));
  count = sym (length-map g.functions frame_bytes) ∙ (ap length (frames_of f g better) ∙ (length-map f.functions frame_bytes ∙ flattened.count));
  each = code_too q f g better flattened.each;
}
