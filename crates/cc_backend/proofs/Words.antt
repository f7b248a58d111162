-- The words of calls and returns, from three-address code to the flat code of a program.
use Rattle.std.proofs.Common.{◌≡◌, ⊎_elim, ℕ, ◌+◌, ◌-◌, ◌*◌, ◌≤◌, ◌<◌, List, refl, sym, ap, ◌∙◌, subst, arith}
use Rattle.std.proofs.lemmas.Bool.{cases_lt}
use Rattle.typing_spec.specs.Program as typed
use Rattle.csem.specs.History.{Entry, trace_of}
use Rattle.csem.specs.Laws.{Grows}
use Rattle.csem.specs.Machine as machine
use Rattle.csem.specs.Machine.{Stops, Ended, TicksUsed}
use Rattle.csem.specs.Meaning.{cstep}
use Rattle.tac_code.specs.Code as tac
use Rattle.tac_code.specs.Run as tac_run
use Rattle.tac_code.specs.Sound.{AreBytes}
use Rattle.tac_code.specs.Laws.{ComesOf}
use Rattle.tac_code.proofs.Growing.{run_grows}
use Rattle.frames_code.specs.Code as flat
use Rattle.frames_code.specs.Run as flat_run
use Rattle.frames.specs.Translated.{flat_program}
use Rattle.frames.specs.Flattened.{before, behind, HasItsCalls}
use Rattle.frames_correct.proofs.Runs.{run_both}
use Rattle.frames_correct.proofs.Whole.{flat_is_in_step}
use Rattle.frames_opt.specs.Simplified.{DoesTheSame, IsDefined, IsAtCall as IsAtFlatCall}
use Rattle.frames_opt.proofs.InTurn.{defined_alike}
use Rattle.frames_layout.specs.LaidOut.{pace, IsRunning, HasDone, IsLaidOut}
use Rattle.frames_hoist.specs.Optimised.{IsOptimised}
use Rattle.frames_regalloc.specs.Renumbered.{IsRenumbered}
use Rattle.frames_regalloc.specs.Laws.{words_of, moved, moved_progress}
use Rattle.frames_regalloc.proofs.Whole.{runs_alike, calls_alike}
use Rattle.cc_backend.specs.Better.{IsBetter}
use Rattle.cc_backend.specs.Made.{IsFlatCodeOf}
use Rattle.cc_backend.specs.Words.{IsAsMeant, StepsAreAsMeant}
use Rattle.cc_backend.proofs.Optimising.{defined_before, defined_within}
use Rattle.cc_backend.proofs.Renumbering.{calls_same}

same_running : (s t : flat_run.State) → flat_run.running s ≡ flat_run.running t → s ≡ t
same_running s t e = cc

-- ---- the state before the words were renumbered

module _ (g f : flat.Program) (same : IsRenumbered g f) (input : List ℕ) where
  abbrev from : ℕ → ℕ → ℕ
  from = words_of g.functions f.functions same.functions

  pub record Unnumbered (k : ℕ) (u : flat_run.State) : Type 0 where
    pub state : flat_run.State
    pub is : behind g input k ≡ flat_run.running state
    pub now : moved from state ≡ u

  pub unnumbered : (k : ℕ) (u : flat_run.State) → behind f input k ≡ flat_run.running u → Unnumbered k u
  unnumbered k u e = on (behind g input k) refl (sym (runs_alike g f same k input) ∙ e)
    where
      on : (x : flat_run.Progress) → behind g input k ≡ x → moved_progress from (behind g input k) ≡ flat_run.running u → Unnumbered k u
      on (flat_run.running v) here there =
          let now : flat_run.running (moved from v) ≡ flat_run.running u = sym (ap (moved_progress from) here) ∙ there in
          record { state = v; is = here; now = same_running (moved from v) u now }
      on (flat_run.ended status left trace) here there =
          let no : flat_run.ended status left trace ≡ flat_run.running u = sym (ap (moved_progress from) here) ∙ there in
          absurd (let z : ⊥ = cc in z)
      on flat_run.stuck here there =
          let no : flat_run.stuck ≡ flat_run.running u = sym (ap (moved_progress from) here) ∙ there in
          absurd (let z : ⊥ = cc in z)

-- ---- the state before the code was optimised

module _ (f g : flat.Program) (better : IsOptimised f g) (input : List ℕ) where
  pub record Original (k : ℕ) (v : flat_run.State) : Type 0 where
    pub state : flat_run.State
    pub is : behind f input k ≡ flat_run.running state
    pub calls : flat_run.active v ≡ flat_run.active state

  -- where the original is defined after m steps
  pub original : (m : ℕ) → IsDefined (behind f input m) → (k : ℕ) (v : flat_run.State) → k ≤ m → behind g input k ≡ flat_run.running v → Original k v
  original m defined k v le e = on (behind f input k) refl
    where
      on : (x : flat_run.Progress) → behind f input k ≡ x → Original k v
      on (flat_run.running w) h =
          let both : DoesTheSame (flat_run.running w) (flat_run.running v) = subst (DoesTheSame (flat_run.running w)) e (subst (λ x. DoesTheSame x (behind g input k)) h (better.runs k input)) in
          record { state = w; is = h; calls = both.2 }
      on (flat_run.ended status left trace) h =
          let over : behind g input k ≡ flat_run.ended status left trace = subst (λ x. DoesTheSame x (behind g input k)) h (better.runs k input) in
          let no : flat_run.ended status left trace ≡ flat_run.running v = sym over ∙ e in
          absurd (let z : ⊥ = cc in z)
      on flat_run.stuck h = absurd (subst IsDefined h (defined_before f g better input k m le defined))

-- ---- the state before the code was laid out anew

-- laid out anew, it is defined where it has gone as far as the first
laid_defined : (f g : flat.Program) (laid : IsLaidOut f g) (input : List ℕ) (k n : ℕ) → pace * k ≤ n → IsDefined (behind f input n) → IsDefined (behind g input k)
laid_defined f g laid input k n le defined = ⊎_elim (λ lt. late lt) (λ ge. defined_within g input k d.steps ge there) (cases_lt d.steps k)
  where
    d : HasDone f g n 0 (flat_run.start f input) (flat_run.start g input)
    d = laid.does n input defined

    defined_too : (x y : flat_run.Progress) → DoesTheSame x y → IsDefined x → IsDefined y
    defined_too (flat_run.running s) (flat_run.running t) same ok = tt
    defined_too (flat_run.running s) (flat_run.ended status left trace) same ok = absurd same
    defined_too (flat_run.running s) flat_run.stuck same ok = absurd same
    defined_too (flat_run.ended status left trace) y same ok = subst IsDefined (sym same) tt
    defined_too flat_run.stuck y same ok = absurd ok

    there : IsDefined (behind g input d.steps)
    there = defined_too (behind f input n) (behind g input d.steps) d.same defined

    late : d.steps < k → IsDefined (behind g input k)
    late lt = on (behind f input n) refl
      where
        sum : k ≡ d.steps + (k - d.steps)
        sum = omega (arith, lt)

        on : (x : flat_run.Progress) → behind f input n ≡ x → IsDefined (behind g input k)
        on (flat_run.running s) e = absurd (let far : n ≤ pace * d.steps = d.fast (subst IsRunning (sym e) tt) in omega (arith, lt, le, far))
        on (flat_run.ended status left trace) e =
            let over : behind g input d.steps ≡ flat_run.ended status left trace = subst (λ x. DoesTheSame x (behind g input d.steps)) e d.same in
            let whole : behind g input k ≡ flat_run.ended status left trace =
            ap (behind g input) sum ∙ (run_both g d.steps (k - d.steps) (flat_run.start g input) ∙ ap (λ x. flat_run.goes_on x (flat_run.run g (k - d.steps))) over) in
            subst IsDefined (sym whole) tt
        on flat_run.stuck e = absurd (subst IsDefined e defined)

at_call_twice : (p q r : flat.Program) (s t u : flat_run.State) → IsAtFlatCall p q s t → IsAtFlatCall q r t u → IsAtFlatCall p r s u
at_call_twice p q r s t u one two = record {
  calls = λ g e. let b = two.calls g e in let a = one.calls g b.0 in (a.0, λ k v h. b.1 k v (a.1 k v h));
  returns = λ e. let b = two.returns e in let a = one.returns b.0 in (a.0, λ v h. b.1 v (a.1 v h));
}

-- ---- the state before the code was made better

module _ (f g : flat.Program) (better : IsBetter f g) (input : List ℕ) where
  pub record First (k : ℕ) (v : flat_run.State) : Type 0 where
    pub steps : ℕ
    pub state : flat_run.State
    pub slow : steps ≤ pace * k
    pub is : behind f input steps ≡ flat_run.running state
    pub calls : flat_run.active v ≡ flat_run.active state
    pub at_call : IsAtFlatCall f g state v

  -- where the first program is defined far enough on
  pub first_of : (m k : ℕ) (v : flat_run.State) → pace * k + 1 ≤ m → IsDefined (behind f input m) → behind g input k ≡ flat_run.running v → First k v
  first_of m k v le defined e =
      let simple_defined : IsDefined (behind better.simple input m) = defined_alike f better.simple better.simplified.runs m input defined in
      let laid_defined_here = laid_defined better.simple better.laid better.laid_out input k m (omega (arith, le)) simple_defined in
      let b = original better.laid g better.optimised input k laid_defined_here k v (omega arith) e in
      let c = better.laid_out.comes k m input b.state le simple_defined b.is in
      let d = simply_original c.steps c.state c.is (omega (arith, c.slow, le)) in
      record {
        steps = c.steps;
        state = d.0;
        slow = c.slow;
        is = d.1.0;
        calls = b.calls ∙ (c.calls ∙ d.1.1);
        at_call = at_call_twice f better.simple g d.0 c.state v (better.simplified.at_calls c.steps input d.0 c.state d.1.0 c.is)
            (at_call_twice better.simple better.laid g c.state b.state v c.at_call (better.optimised.at_calls k input b.state v b.is e));
      }
    where
      simply_original : (i : ℕ) (u : flat_run.State) → behind better.simple input i ≡ flat_run.running u → i ≤ m → (s : flat_run.State) × ((behind f input i ≡ flat_run.running s) × (flat_run.active u ≡ flat_run.active s))
      simply_original i u h below = on (behind f input i) refl
        where
          on : (x : flat_run.Progress) → behind f input i ≡ x → (s : flat_run.State) × ((behind f input i ≡ flat_run.running s) × (flat_run.active u ≡ flat_run.active s))
          on (flat_run.running w) at =
              let both : DoesTheSame (flat_run.running w) (flat_run.running u) = subst (DoesTheSame (flat_run.running w)) h (subst (λ x. DoesTheSame x (behind better.simple input i)) at (better.simplified.runs i input)) in
              (w, (at, both.2))
          on (flat_run.ended status left trace) at =
              let over : behind better.simple input i ≡ flat_run.ended status left trace = subst (λ x. DoesTheSame x (behind better.simple input i)) at (better.simplified.runs i input) in
              let never : flat_run.ended status left trace ≡ flat_run.running u = sym over ∙ h in
              absurd (let z : ⊥ = cc in z)
          on flat_run.stuck at = absurd (subst IsDefined at (defined_within f input i m below defined))

-- ---- the whole way

-- the history of a step is the beginning of that of each later one
pub leads : (q : tac.Program) (input : List ℕ) (i m : ℕ) → i ≤ m → ComesOf (before q input i) (before q input m)
leads q input i m le =
    let sum : i + (m - i) ≡ m = omega (arith, le) in
    subst (λ j. ComesOf (before q input i) (before q input j)) sum (run_grows q i (m - i) (tac_run.start q input))

module _ (p : typed.Program) (f : flat.Program) (input : List ℕ) (made : IsFlatCodeOf p f) (bytes : AreBytes input) where
  abbrev plain : flat.Program
  plain = flat_program made.code

  -- where the flat code at first is defined for m steps, and comes to what three-address code does within n in those that are no more than `last`
  meant : (n last m : ℕ) (history : List Entry) → HasItsCalls made.code plain input n last → IsDefined (behind plain input m)
      → ((i : ℕ) (t : tac_run.State) → i ≤ n → before made.code input i ≡ tac_run.running t → Grows t.history history)
      → (k : ℕ) (u : flat_run.State) → pace * k + 1 ≤ m → ((i : ℕ) (s : flat_run.State) → i ≤ pace * k → behind plain input i ≡ flat_run.running s → i ≤ last)
      → behind f input k ≡ flat_run.running u → IsAsMeant made.code f input history u
  meant n last m history its defined within k u le inside e =
      let a = unnumbered made.simpler f made.renumbered input k u e in
      let b = first_of plain made.simpler made.better input m k a.state le defined a.is in
      let c = its b.steps b.state (inside b.steps b.state b.slow b.is) b.is in
      let same = calls_alike made.simpler f made.renumbered a.state in
      subst (IsAsMeant made.code f input history) a.now
      (record {
        step = c.0;
        state = c.2.0;
        is = c.2.1;
        within = within c.0 c.2.0 c.1 c.2.1;
        calls = calls_same (from made.simpler f made.renumbered input) a.state ∙ (b.calls ∙ c.2.2);
        at_call = record {
          calls = λ g h.
              let one = b.at_call.calls g (same.0 g h) in
              let two = c.2.3.calls g one.0 in
              (two.0, λ j w ew. one.1 j (flat_run.word w) (two.1 j w ew));
          returns = λ h.
              let there = same.1 h in
              let one = b.at_call.returns there.0 in
              let two = c.2.3.returns one.0 in
              (two.0, λ some w ew. there.1 ∙ one.1 (flat_run.word w) (two.1 some w ew));
        };
      })

  goes : (n : ℕ) (s : machine.State) → cstep n p input ≡ Stops TicksUsed s → (k : ℕ) (u : flat_run.State) → pace * k + 1 ≤ n → behind f input k ≡ flat_run.running u → IsAsMeant made.code f input s.history u
  goes n s over k u le e =
      let b = (made.lowered.behaves input bytes).goes_on n s over in
      let c = (flat_is_in_step made.code made.lowered.sound input bytes).goes_on b.0 b.2.0 b.2.1 in
      meant b.0 c.0 c.0 s.history c.4 (subst IsDefined (sym c.2.1) tt)
      (λ i t lt et.
      let later : ComesOf (tac_run.running t) (tac_run.running b.2.0) = subst (ComesOf (tac_run.running t)) b.2.1 (subst (λ x. ComesOf x (before made.code input b.0)) et (leads made.code input i b.0 lt)) in
      subst (Grows t.history) b.2.2 later)
      k u (omega (arith, le, b.1, c.1)) (λ i t below h. omega (arith, below, le, b.1, c.1)) e

  -- an ended run stays so
  stays_ended : (m j : ℕ) (done : flat_run.Progress) → flat_run.goes_on done (flat_run.run plain j) ≡ done → behind plain input m ≡ done → behind plain input (m + j) ≡ done
  stays_ended m j done same e = run_both plain m j (flat_run.start plain input) ∙ (ap (λ x. flat_run.goes_on x (flat_run.run plain j)) e ∙ same)

  ends : (n status : ℕ) (s : machine.State) → cstep n p input ≡ Stops (Ended status) s → (k : ℕ) (u : flat_run.State) → behind f input k ≡ flat_run.running u → IsAsMeant made.code f input s.history u
  ends n status s over k u e =
      let b = (made.lowered.behaves input bytes).ends n status s over in
      let c = (flat_is_in_step made.code made.lowered.sound input bytes).ends b.0 status s.input s.history b.1 in
      let done : flat_run.Progress = flat_run.ended status s.input (trace_of s.history) in
      let far : behind plain input (c.0 + (pace * k + 1)) ≡ done = stays_ended c.0 (pace * k + 1) done refl c.1 in
      meant b.0 c.0 (c.0 + (pace * k + 1)) s.history c.3 (subst IsDefined (sym far) tt)
      (λ i t below et. subst (ComesOf (tac_run.running t)) b.1 (subst (λ x. ComesOf x (before made.code input b.0)) et (leads made.code input i b.0 below)))
      k u (omega arith)
      (λ i t below h.
      ⊎_elim (λ lt. omega (arith, lt))
      (λ ge.
      let sum : i ≡ c.0 + (i - c.0) = omega (arith, ge) in
      let over : behind plain input i ≡ done = ap (behind plain input) sum ∙ stays_ended c.0 (i - c.0) done refl c.1 in
      let never : done ≡ flat_run.running t = sym over ∙ h in
      absurd (let z : ⊥ = cc in z))
      (cases_lt i c.0))
      e

pub steps_are_as_meant : StepsAreAsMeant
steps_are_as_meant p f input made bytes = (goes p f input made bytes, ends p f input made bytes)
