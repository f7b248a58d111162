-- What a file does before undefined behaviour, and on inputs that begin alike.
use Rattle.std.proofs.Common.{◌≡◌, ◌⊎◌, inl, inr, ◌≤◌, ℕ, zero, suc, ◌+◌, ◌-◌, ◌%◌, ◌^◌, ◌&&◌, List, [], ◌∷◌, ◌++◌, length, reverse, Bool, true, false, refl, sym, ap, ◌∙◌, subst, arith}
use Rattle.std.specs.Prelude.{◌==◌, if◌then◌else◌}
use Rattle.csem_events.specs.Events.{Event, Got, GotEnd, Put}
use Rattle.rv32.specs.declared.state.Cause.TheVariants as cause
use Rattle.rv32.specs.declared.state.StepResult.{StepResult}
use Rattle.rv32.specs.declared.state.StepResult.TheVariants.{Went, Call, Trap}
use Rattle.rv32.specs.Space.{with_bytes, byte_put}
use Rattle.rv32.specs.Step.{Machine, register, step_of}
use Rattle.sim.specs.Runs as sim
use Rattle.sim.specs.Runs.{World, Progress, Running, Trapped, answered, with_space, gets, puts, call_of, result_of, tick_of, goes_on, rvrun, start_world}
use Rattle.select_exec.specs.Laws.{IsEndOf}
use Rattle.select_exec.specs.Laws as machine
use Rattle.select_exec.proofs.Keeping.{runs_keep}
use Rattle.typing_spec.specs.Program.{Program}
use Rattle.csem.specs.Machine.{Ending, Ended, Undefined, TicksUsed, Stops}
use Rattle.csem.specs.Meaning.{cstep, answer, ending_of, last_of}
use Rattle.cc_backend.specs.Runs.{RunsAs, IsInput}
use Rattle.cc_laws.specs.Laws.{run_of, done_in, IsBeginning}
use Rattle.cc_laws.specs.Inputs.{DoesAllSoFar, reads, trace_in, leaving, with_left, ReadsAsItGoes}
use Rattle.cc_laws.proofs.Clock.{run_stops}
use Rattle.cc_laws.proofs.Whole.{begins}

-- ---- up to undefined behaviour

module _ (stack : ℕ) (p : Program) (frames file : List ℕ) (r : RunsAs stack p frames file) (input : List ℕ) (bytes : IsInput input) where
  abbrev SoFar : ℕ → Type 0
  SoFar n = (k : ℕ) × (done_in (run_of r.image input k) ≡ (answer n p input).trace) × ((j : ℕ) → j ≤ k → IsBeginning (done_in (run_of r.image input j)) (answer n p input).trace)

  so_far : (n k : ℕ) → done_in (run_of r.image input k) ≡ (answer n p input).trace → SoFar n
  so_far n k same = (
    k,
    same,
    λ j le.
        let sum : j + (k - j) ≡ k = omega (arith, le) in
        subst (IsBeginning (done_in (run_of r.image input j))) (ap (λ i. done_in (run_of r.image input i)) sum ∙ same) (begins r.image input j (k - j)),
  )

  at_ending : (n : ℕ) (e : Ending) → ending_of (cstep n p input) ≡ e → (answer n p input).greatest ≤ stack → SoFar n
  at_ending n (Ended status) e small =
      let stops : cstep n p input ≡ Stops (Ended status) (last_of (cstep n p input)) = run_stops n p input ∙ ap (λ x. Stops x (last_of (cstep n p input))) e in
      let found = r.ends input bytes n status (last_of (cstep n p input)) stops small in
      so_far n found.0 (ap done_in found.3.0 ∙ ap reverse found.3.1.0)
  at_ending n (Undefined act there) e small =
      let stops : cstep n p input ≡ Stops (Undefined act there) (last_of (cstep n p input)) = run_stops n p input ∙ ap (λ x. Stops x (last_of (cstep n p input))) e in
      let found = r.stops input bytes n act there (last_of (cstep n p input)) stops small in
      so_far n found.0 (ap done_in found.3.0 ∙ ap reverse found.3.1.0)
  at_ending n TicksUsed e small =
      let stops : cstep n p input ≡ Stops TicksUsed (last_of (cstep n p input)) = run_stops n p input ∙ ap (λ x. Stops x (last_of (cstep n p input))) e in
      let found = r.goes_on input bytes n (last_of (cstep n p input)) stops small in
      so_far n found.0 (ap done_in found.3.1.0 ∙ ap reverse found.3.1.1.0)

pub does_all_so_far : DoesAllSoFar
does_all_so_far stack p frames file r = (r.image, r.loads, λ input bytes n small. at_ending stack p frames file r input bytes n (ending_of (cstep n p input)) refl small)

-- ---- the input

-- the next step of a world, whatever its input: it reads none of it, or it is a read
abbrev Quiet : World → (List ℕ → Progress) → Type 0
Quiet w f = (x : Progress) × ((i : List ℕ) → f i ≡ with_left i x) × (reads (trace_in x) ≡ reads w.trace)

abbrev Reads : World → (List ℕ → Progress) → Type 0
Reads w f = (a : ℕ) × ((i : List ℕ) → f i ≡ gets (leaving i w) i a)

abbrev Form : World → (List ℕ → Progress) → Type 0
Form w f = Quiet w f ⊎ Reads w f

if_form : (t : Bool) (w : World) (f g : List ℕ → Progress) → Form w f → Form w g → Form w (λ i. if t then f i else g i)
if_form true w f g x y = x
if_form false w f g x y = y

-- with a world that represents all that differ from it in the input alone
puts_form : (w : World) (a : ℕ) → Form w (λ i. puts (leaving i w) a)
puts_form w a = inl (puts w a, λ i. refl, refl)

call_form : (w : World) → Form w (λ i. call_of (leaving i w))
call_form w =
    let m = w.machine in
    let a = register m 11 in
    let is_read = register m 17 == 63 && (register m 10 == 0 && register m 12 == 1) in
    let is_write = register m 17 == 64 && (register m 10 == 1 && register m 12 == 1) in
    if_form (register m 17 == 93) w _ _ (inl (sim.Ended (register m 10 % 2 ^ 8) w, λ i. refl, refl))
    (if_form is_read w _ _ (if_form (m.space.can_write a) w _ _ (inr (a, λ i. refl)) (inl (Trapped cause.StoreFault w, λ i. refl, refl)))
    (if_form is_write w _ _ (if_form (m.space.can_read a) w _ _ (puts_form w a) (inl (Trapped cause.LoadFault w, λ i. refl, refl)))
    (inl (Trapped cause.BadCall w, λ i. refl, refl))))

result_form : (w : World) (m : Machine) (r : StepResult) → Form w (λ i. result_of (leaving i w) m r)
result_form w m Went = inl (Running (record { machine = m; input = w.input; trace = w.trace }), λ i. refl, refl)
result_form w m Call = call_form w
result_form w m (Trap c) = inl (Trapped c w, λ i. refl, refl)

tick_form : (w : World) → Form w (λ i. tick_of (leaving i w))
unfolding tick_of
tick_form w = let s = step_of w.machine in result_form w s.machine s.result

-- reads are not revoked
reads_more : (x y : List Event) → reads y ≤ reads (x ++ y)
reads_more [] y = omega arith
reads_more (Got b ∷ x) y = omega (arith, reads_more x y)
reads_more (GotEnd ∷ x) y = omega (arith, reads_more x y)
reads_more (Put b ∷ x) y = reads_more x y

reads_grow : (k : ℕ) (w : World) → reads w.trace ≤ reads (trace_in (rvrun k w))
reads_grow k w =
    let kept = (runs_keep 0 k w).0 in
    let none : k ≡ 0 + k = omega arith in
    let whole : trace_in (rvrun k w) ≡ kept.0 ++ w.trace = same_trace (rvrun k w) ∙ (ap (λ j. machine.trace_of (rvrun j w)) none ∙ kept.1) in
    subst (λ h. reads w.trace ≤ reads h) (sym whole) (reads_more kept.0 w.trace)
  where
    same_trace : (x : Progress) → trace_in x ≡ machine.trace_of x
    same_trace (Running v) = refl
    same_trace (sim.Ended status v) = refl
    same_trace (Trapped c v) = refl

abbrev Alike : (b c : List ℕ) → Progress → Progress → Type 0
Alike b c x y = (left : List ℕ) × (z : Progress) × (x ≡ with_left (left ++ b) z) × (y ≡ with_left (left ++ c) z)

module _ (b c : List ℕ) where
  -- of a step that reads nothing
  quietly : (k : ℕ) (a : List ℕ) (z : Progress) → ((w : World) → reads (trace_in (rvrun k (leaving (a ++ b) w))) ≤ reads w.trace + length a → Alike b c (rvrun k (leaving (a ++ b) w)) (rvrun k (leaving (a ++ c) w)))
      → reads (trace_in (goes_on (with_left (a ++ b) z) (rvrun k))) ≤ reads (trace_in z) + length a
      → Alike b c (goes_on (with_left (a ++ b) z) (rvrun k)) (goes_on (with_left (a ++ c) z) (rvrun k))
  quietly k a (Running w) each le = each w le
  quietly k a (sim.Ended status w) each le = (a, sim.Ended status w, refl, refl)
  quietly k a (Trapped d w) each le = (a, Trapped d w, refl, refl)

  -- of one that reads
  reading : (k : ℕ) (w : World) (at : ℕ) (a : List ℕ) → ((a : List ℕ) (w : World) → reads (trace_in (rvrun k (leaving (a ++ b) w))) ≤ reads w.trace + length a → Alike b c (rvrun k (leaving (a ++ b) w)) (rvrun k (leaving (a ++ c) w)))
      → reads (trace_in (goes_on (gets (leaving (a ++ b) w) (a ++ b) at) (rvrun k))) ≤ reads w.trace + length a
      → Alike b c (goes_on (gets (leaving (a ++ b) w) (a ++ b) at) (rvrun k)) (goes_on (gets (leaving (a ++ c) w) (a ++ c) at) (rvrun k))
  reading k w at [] each le = absurd (past_end k w at b le)
    where
      past_end : (k : ℕ) (w : World) (at : ℕ) (xs : List ℕ) → reads (trace_in (goes_on (gets (leaving xs w) xs at) (rvrun k))) ≤ reads w.trace + 0 → ⊥
      past_end k w at [] le =
          let more = reads_grow k (record { machine = answered w.machine 0; input = []; trace = GotEnd ∷ w.trace }) in
          omega (arith, le, more)
      past_end k w at (x ∷ xs) le =
          let m = answered (with_space w.machine (with_bytes w.machine.space (byte_put at x))) 1 in
          let more = reads_grow k (record { machine = m; input = xs; trace = Got x ∷ w.trace }) in
          omega (arith, le, more)
  reading k w at (x ∷ a) each le =
      let m = answered (with_space w.machine (with_bytes w.machine.space (byte_put at x))) 1 in
      each a (record { machine = m; input = []; trace = Got x ∷ w.trace }) (omega (arith, le))

  alike : (k : ℕ) (a : List ℕ) (w : World) → reads (trace_in (rvrun k (leaving (a ++ b) w))) ≤ reads w.trace + length a → Alike b c (rvrun k (leaving (a ++ b) w)) (rvrun k (leaving (a ++ c) w))
  alike zero a w le = (a, Running w, refl, refl)
  alike (suc k) a w le =
      elim (tick_form w) [
        | inl q ↦
            let first = ap (λ x. goes_on x (rvrun k)) (q.1 (a ++ b)) in
            let second = ap (λ x. goes_on x (rvrun k)) (q.1 (a ++ c)) in
            let small : reads (trace_in (goes_on (with_left (a ++ b) q.0) (rvrun k))) ≤ reads (trace_in q.0) + length a =
            subst (λ n. reads (trace_in (goes_on (with_left (a ++ b) q.0) (rvrun k))) ≤ n + length a) (sym q.2) (subst (λ x. reads (trace_in x) ≤ reads w.trace + length a) first le) in
            let found = quietly k a q.0 (alike k a) small in
            (found.0, found.1, first ∙ found.2, second ∙ found.3)
        | inr q ↦
            let first = ap (λ x. goes_on x (rvrun k)) (q.1 (a ++ b)) in
            let second = ap (λ x. goes_on x (rvrun k)) (q.1 (a ++ c)) in
            let found = reading k w q.0 a (alike k) (subst (λ x. reads (trace_in x) ≤ reads w.trace + length a) first le) in
            (found.0, found.1, first ∙ found.2, second ∙ found.3)
      ]

pub reads_as_it_goes : ReadsAsItGoes
reads_as_it_goes image a b c k le = alike b c k a (start_world image []) (omega (arith, le))
