-- A file whose calls need more stack than it has does what its program does until an access below the stack traps.
use Rattle.std.proofs.Common.{◌≡◌, ◌⊎◌, inl, inr, ℕ, ◌+◌, ◌-◌, ◌*◌, ◌^◌, ◌<◌, ◌≤◌, List, [], ◌∷◌, ◌++◌, length, reverse, Ok, refl, sym, ap, ◌∙◌, subst, arith, mul_assoc}
use Rattle.std.specs.Prelude.{replicate}
use Rattle.std.proofs.Math.Nat.{lt_of_mul-lt-mul_left}
use Rattle.std.proofs.lemmas.List.{append_assoc, reverse-append}
use Rattle.csem_events.specs.Events.{Event}
use Rattle.rv32.specs.declared.state.Cause.{Cause}
use Rattle.rv32.specs.Space.{Space}
use Rattle.memory_map.specs.MemoryMap.{text_start}
use Rattle.loader.specs.File.{Image, file_image}
use Rattle.elf_out.specs.Layout.{Parts}
use Rattle.elf_out.specs.Program.{program_image, program_space}
use Rattle.elf_out.proofs.Memory.{written_image}
use Rattle.typing_spec.specs.Program.{Program}
use Rattle.csem.specs.History.{trace_of, active, sum_of}
use Rattle.csem.specs.Machine.{Ending, Ended, Undefined, TicksUsed, Stops}
use Rattle.csem.specs.Meaning.{cstep, answer, ending_of, last_of}
use Rattle.frames_code.specs.Code as flat_code
use Rattle.frames_code.specs.Run as flat
use Rattle.frames_correct.proofs.Runs.{run_both}
use Rattle.sim.specs.Runs as sim
use Rattle.sim.specs.Runs.{World, Progress, Running, Trapped, rvrun, start_world}
use Rattle.select_exec.specs.Laws.{IsEndOf}
use Rattle.select_exec.specs.Laws as machine
use Rattle.select_exec.proofs.Keeping.{runs_keep}
use Rattle.select_correct.specs.Runs.{slack}
use Rattle.select_correct.proofs.Real.{goes_on, ends_so, stands}
use Rattle.cc_backend.specs.Runs.{IsInput}
use Rattle.frames_layout.specs.LaidOut.{pace}
use Rattle.cc_backend.specs.Made.{IsFileOf}
use Rattle.cc_backend.specs.Simulation.{Doing, Done, AreWithin}
use Rattle.cc_backend.specs.Chain.{of_program}
use Rattle.cc_backend.proofs.Chain.{flat_simulates_program}
use Rattle.cc_backend.proofs.Making.{way_of}
use Rattle.cc_backend.proofs.FlatImages as whole
use Rattle.cc_laws.specs.Laws.{IsDefined, run_of, done_in, IsBeginning}
use Rattle.cc_laws.specs.Overflow.{IsAlwaysDefined, IsOverflow, HasTrapped, GoesUpToOverflow, FilesGoUpToOverflow, data_end}
use Rattle.cc_laws.proofs.Clock.{run_stops}
use Rattle.cc_laws.proofs.Loosening.{loose_world, loose_progress, NeverTrapped}
use Rattle.cc_laws.proofs.Touching.{goes_before}
use Rattle.cc_laws.proofs.Whole.{done_is}
use Rattle.cc_laws.proofs.Refused.{IsSame, IsRefused, same_or_refused}
use Rattle.cc_laws.proofs.Callers.{Called, run_called, step_within, Within}
use Rattle.cc_laws.proofs.Wide as wide_image
use Rattle.cc_laws.proofs.Wide.{Bursts, fits_or_bursts, cannot_be_same}

-- ---- traces, from the newest event and from the oldest

end_further : (a b c : List Event) → IsEndOf a b → IsEndOf b c → IsEndOf a c
end_further a b c x y = (y.0 ++ x.0, y.1 ∙ (ap (λ z. y.0 ++ z) x.1 ∙ sym (append_assoc y.0 x.0 a)))

end_begins : (a b : List Event) → IsEndOf a b → IsBeginning (reverse a) (reverse b)
end_begins a b x = (reverse x.0, ap reverse x.1 ∙ reverse-append x.0 a)

same_trace : (t : Space) (x : Progress) → machine.trace_of (loose_progress t x) ≡ machine.trace_of x
same_trace t (Running w) = refl
same_trace t (sim.Ended status w) = refl
same_trace t (Trapped c w) = refl

zero_sum : (calls : List ℕ) → sum_of (λ g. 0) calls ≤ 0
zero_sum [] = omega arith
zero_sum (g ∷ calls) = omega (arith, zero_sum calls)

no_trap : (x : Progress) (w : World) → x ≡ Running w → NeverTrapped x
no_trap x w e c v f = let both = sym e ∙ f in cc

low_bound : (parts : Parts) → length parts.text + length parts.statics ≤ 0x7000000 → data_end parts ≤ 0x7013000
low_bound parts le = omega (arith, le)

module _ (stack : ℕ) (p : Program) (file frames : List ℕ) (made : IsFileOf stack p file frames) (input : List ℕ) (bytes : IsInput input) (fine : IsAlwaysDefined p input) where
  abbrev code : flat_code.Program
  code = made.code

  abbrev parts : Parts
  parts = made.parts

  abbrev image : Image
  image = program_image parts

  abbrev begin : World
  begin = start_world image input

  abbrev wide : Space
  wide = wide_image.wide code parts made.image_is

  abbrev widely : ℕ → Progress
  widely k = rvrun k (loose_world wide begin)

  abbrev at : ℕ → flat.Progress
  at k = flat.run code k (flat.start code input)

  -- ---- flat code, at n ticks

  pub record FlatGoes (n : ℕ) : Type 0 where
    pub m : ℕ
    pub state : flat.State
    pub is : at m ≡ flat.running state
    pub far : n ≤ pace * m
    pub same : reverse state.trace ≡ (answer n p input).trace

  pub record FlatEnds (n : ℕ) : Type 0 where
    pub m : ℕ
    pub status : ℕ
    pub left : List ℕ
    pub trace : List Event
    pub is : at m ≡ flat.ended status left trace
    pub ends : (answer n p input).ending ≡ Ended status
    pub same : reverse trace ≡ (answer n p input).trace

  within : (n : ℕ) → AreWithin (λ g. 0) 0 (of_program p input) n
  within n calls c = zero_sum calls

  pub flat_at : (n : ℕ) (e : Ending) → ending_of (cstep n p input) ≡ e → IsDefined e → FlatGoes n ⊎ FlatEnds n
  flat_at n (Ended status) e ok =
      let stop = last_of (cstep n p input) in
      let over : cstep n p input ≡ Stops (Ended status) stop = run_stops n p input ∙ ap (λ z. Stops z stop) e in
      let x : Done = record { status = status; trace = trace_of stop.history; input = stop.input } in
      let c = (flat_simulates_program (λ g. 0) 0 p code input (way_of p code made.code_is) bytes).ends n x (stop, over, refl, refl) (within n) in
      inr (record { m = c.0; status = status; left = stop.input; trace = trace_of stop.history; is = c.2; ends = e; same = refl })
  flat_at n (Undefined act there) e ok = absurd ok
  flat_at n TicksUsed e ok =
      let stop = last_of (cstep n p input) in
      let over : cstep n p input ≡ Stops TicksUsed stop = run_stops n p input ∙ ap (λ z. Stops z stop) e in
      let x : Doing = record { trace = trace_of stop.history; input = stop.input; calls = active stop.history } in
      let c = (flat_simulates_program (λ g. 0) 0 p code input (way_of p code made.code_is) bytes).goes_on n x (stop, over, refl, refl, refl) (within n) in
      inl (record { m = c.0; state = c.4.0; is = c.4.1; far = omega (arith, c.1); same = ap reverse c.4.2 })

  -- ---- the machine, at n ticks

  -- the ticks for one instruction at the most
  abbrev whole_slack : ℕ
  whole_slack = pace * slack code

  paced : (n m k : ℕ) → n ≤ pace * m → m < slack code * k → n < whole_slack * k
  paced n m k one two = let whole_is : whole_slack * k ≡ pace * (slack code * k) = mul_assoc pace (slack code) k in omega (arith, one, two, whole_is)

  record Goes (n : ℕ) : Type 0 where
    pub k : ℕ
    pub world : World
    pub far : n < whole_slack * k
    pub is : widely k ≡ Running world
    pub same : reverse world.trace ≡ (answer n p input).trace

  record Ends (n : ℕ) : Type 0 where
    pub k : ℕ
    pub status : ℕ
    pub world : World
    pub is : widely k ≡ sim.Ended status world
    pub ends : (answer n p input).ending ≡ Ended status
    pub same : reverse world.trace ≡ (answer n p input).trace

  record Overflows (n : ℕ) : Type 0 where
    pub k : ℕ
    pub refused : IsRefused wide k begin
    pub whole : List Event
    pub before : IsEndOf refused.world.trace whole
    pub same : reverse whole ≡ (answer n p input).trace

  bursts : (n m : ℕ) (whole : List Event) → Bursts code parts made.image_is input m → ((s : flat.State) (j : ℕ) → j ≤ m → at j ≡ flat.running s → IsEndOf s.trace whole) → reverse whole ≡ (answer n p input).trace → Overflows n
  bursts n m whole_trace b later same =
      let q = made.image_is in
      let z = stands (wide_image.P code parts q) (whole.low code parts q) (wide_image.apart code parts q) code q.assembled.env (data_end parts) (whole.data_at code parts q) text_start (whole.past_text code parts q) (λ k. 0) (program_space parts).byte (replicate 32 0) input
      (wide_image.laid code parts q) (whole.zero_registers code parts q) bytes b.j b.state b.here b.fits in
      let k = z.0 in
      let a = z.1 in
      let callers = run_called code q.sound b.j (flat.start code input) tt in
      let called = subst (Called code q.sound (flat.start code input).trace) b.here callers in
      let more = subst (Within code (flat.bytes_of code (b.state.frame ∷ b.state.waiting) + 2 ^ 24) b.state.trace) b.next (step_within code q.sound b.state called.0) in
      let large : 2 ^ 26 ≤ flat.bytes_of code (b.state.frame ∷ b.state.waiting) = omega (arith, b.large, more.1, low_bound parts q.size) in
      elim (same_or_refused wide k begin (wide_image.widens code parts q) (no_trap (widely k) _ a.is)) [
        | inl equal ↦ absurd (cannot_be_same code parts q input k b.state a equal called.0 large)
        | inr r ↦ record {
          k = k;
          refused = r;
          whole = whole_trace;
          before = end_further r.world.trace b.state.trace whole_trace (subst (λ y. IsEndOf r.world.trace (machine.trace_of y)) a.is r.before) (later b.state b.j (omega (arith, b.before)) b.here);
          same = same;
        }
      ]

  -- the trace at a step of flat code is kept
  ends_later : (m : ℕ) (h : List Event) → ((s : flat.State) → at m ≡ flat.running s → s.trace ≡ h) → ((status : ℕ) (left : List ℕ) (trace : List Event) → at m ≡ flat.ended status left trace → trace ≡ h)
      → (at m ≡ flat.stuck → ⊥) → (s : flat.State) (j : ℕ) → j ≤ m → at j ≡ flat.running s → IsEndOf s.trace h
  ends_later m h on over never s j le e =
      let sum : j + (m - j) ≡ m = omega (arith, le) in
      let behind : at m ≡ flat.run code (m - j) s = ap at (sym sum) ∙ (run_both code j (m - j) (flat.start code input) ∙ ap (λ x. flat.goes_on x (flat.run code (m - j))) e) in
      let from = subst (Called code made.image_is.sound (flat.start code input).trace) e (run_called code made.image_is.sound j (flat.start code input) tt) in
      let called = subst (Called code made.image_is.sound s.trace) (sym behind) (run_called code made.image_is.sound (m - j) s from.0) in
      last (at m) refl called
    where
      last : (x : flat.Progress) → at m ≡ x → Called code made.image_is.sound s.trace x → IsEndOf s.trace h
      last (flat.running t) f c = subst (IsEndOf s.trace) (on t f) c.1
      last (flat.ended status left trace) f c = subst (IsEndOf s.trace) (over status left trace f) c
      last flat.stuck f c = absurd (never f)

  at_goes : (n : ℕ) → FlatGoes n → Goes n ⊎ Overflows n
  at_goes n f =
      let q = made.image_is in
      elim (fits_or_bursts code parts q input f.m) [
        | inl fits ↦
            let g = goes_on (wide_image.P code parts q) (whole.low code parts q) (wide_image.apart code parts q) code q.assembled.env (data_end parts) (whole.data_at code parts q) text_start (whole.past_text code parts q) (λ k. 0) (program_space parts).byte (replicate 32 0) input
            (wide_image.laid code parts q) (whole.zero_registers code parts q) bytes f.m f.state f.is fits in
            inl (record { k = g.0; world = g.1; far = paced n f.m g.0 f.far g.2; is = g.4; same = ap reverse g.5.trace ∙ f.same })
        | inr b ↦ inr (bursts n f.m f.state.trace b (ends_later f.m f.state.trace (λ s e. let both = sym e ∙ f.is in cc) (λ status left trace e. let both = sym e ∙ f.is in cc) (λ e. let both = sym e ∙ f.is in cc)) f.same)
      ]

  at_ends : (n : ℕ) → FlatEnds n → Ends n ⊎ Overflows n
  at_ends n f =
      let q = made.image_is in
      elim (fits_or_bursts code parts q input f.m) [
        | inl fits ↦
            let g = ends_so (wide_image.P code parts q) (whole.low code parts q) (wide_image.apart code parts q) code q.assembled.env (data_end parts) (whole.data_at code parts q) text_start (whole.past_text code parts q) (λ k. 0) (program_space parts).byte (replicate 32 0) input
            (wide_image.laid code parts q) (whole.zero_registers code parts q) bytes f.m f.status f.left f.trace f.is fits in
            inl (record { k = g.0; status = f.status; world = g.1; is = g.3; ends = f.ends; same = ap reverse g.4 ∙ f.same })
        | inr b ↦ inr (bursts n f.m f.trace b (ends_later f.m f.trace (λ s e. let both = sym e ∙ f.is in cc) (λ status left trace e. let both = sym e ∙ f.is in cc) (λ e. let both = sym e ∙ f.is in cc)) f.same)
      ]

  at_tick : (n : ℕ) → Goes n ⊎ (Ends n ⊎ Overflows n)
  at_tick n =
      elim (flat_at n (ending_of (cstep n p input)) refl (fine n)) [
        | inl f ↦ elim (at_goes n f) [ inl g ↦ inl g | inr o ↦ inr (inr o) ]
        | inr f ↦ elim (at_ends n f) [ inl g ↦ inr (inl g) | inr o ↦ inr (inr o) ]
      ]

  -- ---- the file, after k instructions

  record After (k : ℕ) : Type 0 where
    pub n : ℕ
    pub begins : IsBeginning (done_in (run_of image input k)) (answer n p input).trace
    pub ends : (status : ℕ) (w : World) → run_of image input k ≡ sim.Ended status w → ((answer n p input).ending ≡ Ended status) × ((answer n p input).trace ≡ reverse w.trace)
    pub traps : (c : Cause) (w : World) → run_of image input k ≡ Trapped c w → IsOverflow parts image c w

  overflow : (k : ℕ) (r : IsRefused wide k begin) (c : Cause) (w : World) → run_of image input k ≡ Trapped c w → IsOverflow parts image c w
  overflow k r c w e =
      let both = sym r.traps ∙ e in
      let reason : r.reason ≡ c = cc in
      let world : r.world ≡ w = cc in
      let first : IsOverflow parts image r.reason r.world = record { refused = r.fault; below = r.inside } in
      subst (λ d. IsOverflow parts image d w) reason (subst (IsOverflow parts image r.reason) world first)

  begun : (k n : ℕ) (whole : List Event) → IsEndOf (machine.trace_of (run_of image input k)) whole → reverse whole ≡ (answer n p input).trace → IsBeginning (done_in (run_of image input k)) (answer n p input).trace
  begun k n whole_trace e same =
      let b = end_begins (machine.trace_of (run_of image input k)) whole_trace e in
      (b.0, sym same ∙ (b.1 ∙ ap (λ xs. xs ++ b.0) (sym (done_is (run_of image input k)))))

  -- what the run with more permissions has done at k is what the file has done, or the file was refused and has done a prefix of it
  done_at : (k : ℕ) (whole : List Event) → IsSame wide k begin ⊎ IsRefused wide k begin → IsEndOf (machine.trace_of (widely k)) whole → IsEndOf (machine.trace_of (run_of image input k)) whole
  done_at k whole_trace (inl same) e = subst (λ h. IsEndOf h whole_trace) (ap machine.trace_of same ∙ same_trace wide (run_of image input k)) e
  done_at k whole_trace (inr r) e =
      let here : machine.trace_of (run_of image input k) ≡ r.world.trace = ap machine.trace_of r.traps in
      subst (λ h. IsEndOf h whole_trace) (sym here) (end_further r.world.trace (machine.trace_of (widely k)) whole_trace r.before e)

  traps_so : (k : ℕ) → NeverTrapped (widely k) → IsSame wide k begin ⊎ IsRefused wide k begin → (c : Cause) (w : World) → run_of image input k ≡ Trapped c w → IsOverflow parts image c w
  traps_so k never (inl same) c w e = absurd (never c (loose_world wide w) (same ∙ ap (loose_progress wide) e))
  traps_so k never (inr r) c w e = overflow k r c w e

  -- if the file has ended, so has the run with more permissions
  ended_too : (k : ℕ) → IsSame wide k begin ⊎ IsRefused wide k begin → (status : ℕ) (w : World) → run_of image input k ≡ sim.Ended status w → widely k ≡ sim.Ended status (loose_world wide w)
  ended_too k (inl same) status w e = same ∙ ap (loose_progress wide) e
  ended_too k (inr r) status w e = let both = sym r.traps ∙ e in cc

  after_goes : (k : ℕ) → Goes (whole_slack * k) → After k
  after_goes k g =
      let past = lt_of_mul-lt-mul_left whole_slack {m = k} {n = g.k} g.far in
      let here = goes_before k g.k (loose_world wide begin) g.world (omega (arith, past)) g.is in
      let never = no_trap (widely k) here.0 here.1 in
      let beside = same_or_refused wide k begin (wide_image.widens code parts made.image_is) never in
      let sum : k + (g.k - k) ≡ g.k = omega (arith, past) in
      let last : machine.trace_of (widely (k + (g.k - k))) ≡ g.world.trace = ap (λ j. machine.trace_of (widely j)) sum ∙ ap machine.trace_of g.is in
      let on : IsEndOf (machine.trace_of (widely k)) g.world.trace = subst (IsEndOf (machine.trace_of (widely k))) last (runs_keep k (g.k - k) (loose_world wide begin)).0 in
      record {
        n = whole_slack * k;
        begins = begun k (whole_slack * k) g.world.trace (done_at k g.world.trace beside on) g.same;
        ends = λ status w e. let both = sym here.1 ∙ ended_too k beside status w e in cc;
        traps = traps_so k never beside;
      }

  after_ends : (k : ℕ) → Ends (whole_slack * k) → After k
  after_ends k g =
      let order : k + g.k ≡ g.k + k = omega arith in
      let later : widely (k + g.k) ≡ sim.Ended g.status g.world = ap widely order ∙ (runs_keep g.k k (loose_world wide begin)).1 g.status g.world g.is in
      let never : NeverTrapped (widely k) = λ c v e. let both = sym later ∙ (runs_keep k g.k (loose_world wide begin)).2 c v e in cc in
      let beside = same_or_refused wide k begin (wide_image.widens code parts made.image_is) never in
      let on : IsEndOf (machine.trace_of (widely k)) g.world.trace = subst (IsEndOf (machine.trace_of (widely k))) (ap machine.trace_of later) (runs_keep k g.k (loose_world wide begin)).0 in
      record {
        n = whole_slack * k;
        begins = begun k (whole_slack * k) g.world.trace (done_at k g.world.trace beside on) g.same;
        ends = λ status w e.
            let both = sym later ∙ (runs_keep k g.k (loose_world wide begin)).1 status (loose_world wide w) (ended_too k beside status w e) in
            let which : g.status ≡ status = cc in
            let where_it_is : g.world ≡ loose_world wide w = cc in
            (g.ends ∙ ap Ended which, sym g.same ∙ ap (λ v. reverse v.trace) where_it_is);
        traps = traps_so k never beside;
      }

  after_overflows : (k : ℕ) → Overflows (whole_slack * k) → After k
  after_overflows k o =
      let order : k + o.k ≡ o.k + k = omega arith in
      let later : run_of image input (k + o.k) ≡ Trapped o.refused.reason o.refused.world = ap (run_of image input) order ∙ (runs_keep o.k k begin).2 o.refused.reason o.refused.world o.refused.traps in
      let on : IsEndOf (machine.trace_of (run_of image input k)) o.refused.world.trace = subst (IsEndOf (machine.trace_of (run_of image input k))) (ap machine.trace_of later) (runs_keep k o.k begin).0 in
      record {
        n = whole_slack * k;
        begins = begun k (whole_slack * k) o.whole (end_further (machine.trace_of (run_of image input k)) o.refused.world.trace o.whole on o.before) o.same;
        ends = λ status w e. let both = sym later ∙ (runs_keep k o.k begin).1 status w e in cc;
        traps = λ c w e.
            let both = sym later ∙ (runs_keep k o.k begin).2 c w e in
            let reason : o.refused.reason ≡ c = cc in
            let world : o.refused.world ≡ w = cc in
            let first : IsOverflow parts image o.refused.reason o.refused.world = record { refused = o.refused.fault; below = o.refused.inside } in
            subst (λ d. IsOverflow parts image d w) reason (subst (IsOverflow parts image o.refused.reason) world first);
      }

  after : (k : ℕ) → After k
  after k = elim (at_tick (whole_slack * k)) [ inl g ↦ after_goes k g | inr more ↦ elim more [ inl g ↦ after_ends k g | inr o ↦ after_overflows k o ] ]

  -- ---- n ticks, in the file

  abbrev Does : ℕ → Type 0
  Does n = (k : ℕ) × ((done_in (run_of image input k) ≡ (answer n p input).trace) ⊎ HasTrapped (run_of image input k))

  does : (n k : ℕ) (h : List Event) → IsSame wide k begin ⊎ IsRefused wide k begin → machine.trace_of (widely k) ≡ h → reverse h ≡ (answer n p input).trace → Does n
  does n k h (inl same) e f =
      let here : machine.trace_of (run_of image input k) ≡ h = sym (same_trace wide (run_of image input k)) ∙ (ap machine.trace_of (sym same) ∙ e) in
      (k, inl (done_is (run_of image input k) ∙ (ap reverse here ∙ f)))
  does n k h (inr r) e f = (k, inr (r.reason, r.world, r.traps))

  does_all : (n : ℕ) → Does n
  does_all n =
      elim (at_tick n) [
        | inl g ↦ does n g.k g.world.trace (same_or_refused wide g.k begin (wide_image.widens code parts made.image_is) (no_trap (widely g.k) g.world g.is)) (ap machine.trace_of g.is) g.same
        | inr more ↦ elim more [
          | inl g ↦
              let never : NeverTrapped (widely g.k) = λ c v e. let both = sym g.is ∙ e in cc in
              does n g.k g.world.trace (same_or_refused wide g.k begin (wide_image.widens code parts made.image_is) never) (ap machine.trace_of g.is) g.same
          | inr o ↦ (o.k, inr (o.refused.reason, o.refused.world, o.refused.traps))
        ]
      ]

  pub goes_up_to_overflow : GoesUpToOverflow parts p image input
  goes_up_to_overflow = record {
    does_no_more = λ k. let a = after k in (a.n, a.begins);
    ends_only_so = λ k status w e. let a = after k in let b = a.ends status w e in (a.n, b.0, b.1);
    traps_only_so = λ k c w e. (after k).traps c w e;
    does_all = does_all;
  }

pub files_go_up_to_overflow : FilesGoUpToOverflow
files_go_up_to_overflow stack p file frames made =
    let image = program_image made.parts in (
      image,
      subst (λ f. file_image f ≡ Ok image) (sym made.file_is) (written_image made.parts made.image_is.size made.image_is.stack.2),
      λ input bytes fine. goes_up_to_overflow stack p file frames made input bytes fine,
    )
