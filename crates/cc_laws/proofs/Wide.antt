-- A file's image with all between the data and the end of the stack readable and writable: flat code of any depth that fits is followed there. The run of the file
-- itself cannot be the same if frames are far below the stack, since what is there stays zero, and no call returns to address zero.
use Rattle.std.proofs.Common.{◌≡◌, ◌⊎◌, inl, inr, ℕ, zero, suc, ◌+◌, ◌-◌, ◌^◌, ◌<◌, ◌≤◌, List, [], ◌∷◌, length, Bool, true, false, refl, sym, ap, ◌∙◌, subst, arith}
use Rattle.std.specs.Prelude.{nat_le}
use Rattle.std.proofs.lemmas.Bool.Decides.{nat_tests}
use Rattle.rv32.specs.Space.{Space, word_at}
use Rattle.memory_map.specs.MemoryMap.{text_start, data_start, stack_end, stack_start}
use Rattle.elf_out.specs.Layout.{Parts}
use Rattle.elf_out.specs.Program.{program_space, program_image, is_within, is_text, is_data, is_stack}
use Rattle.frames_code.specs.declared.code.Instruction.TheVariants as instruction
use Rattle.frames_code.specs.Code.{Program, frame_bytes}
use Rattle.frames_code.specs.Run.{Frame, State, Progress, running, ended, stuck, function_at, bytes_of, run, step, goes_on, start}
use Rattle.frames_correct.proofs.Runs.{run_both}
use Rattle.sim.specs.Runs as sim
use Rattle.sim.specs.Runs.{World, Running, Ended, Trapped, rvrun, start_world}
use Rattle.select_exec.specs.Light.{Fixed}
use Rattle.select_exec.specs.Whole.{Permits, fixed}
use Rattle.select_exec.specs.Standing.{CallAt}
use Rattle.select.specs.Program.{calls_are_near}
use Rattle.select.specs.Selected.{return_home}
use Rattle.select_correct.specs.Matches.{Ground, Ready, Waits, HasRoom, address, file_of, file_below, return_at}
use Rattle.select_correct.specs.Runs.{Laid, ground_at}
use Rattle.select_correct.specs.Standing.{StandsAt}
use Rattle.select_correct.proofs.Fits.{function_fits}
use Rattle.select_correct.proofs.Laying.{is_ready}
use Rattle.cc_backend.specs.FlatImages.{IsImageOf}
use Rattle.cc_backend.proofs.FlatImages as whole
use Rattle.cc_backend.proofs.FlatImages.{within_low, within_is, below_not, or_left, or_right, or_none}
use Rattle.cc_backend.proofs.Plain.{bool_cases}
use Rattle.cc_laws.specs.Laws.{space_from}
use Rattle.cc_laws.specs.Overflow.{data_end}
use Rattle.cc_laws.proofs.Permissions.{world_of, run_permits}
use Rattle.cc_laws.proofs.Loosening.{loose_world, loose_progress}
use Rattle.cc_laws.proofs.Touching.{or_more}
use Rattle.cc_laws.proofs.Refused.{Widens, IsSame}
use Rattle.cc_laws.proofs.Callers.{AreBehindCalls}

past_not : (start n a : ℕ) → start + n ≤ a → is_within start n a ≡ false
past_not start n a le = grind (arith, nat_tests)

same_bytes : (t : Space) (x : sim.Progress) → (world_of (loose_progress t x)).machine.space.byte ≡ (world_of x).machine.space.byte
same_bytes t (Running w) = refl
same_bytes t (Ended status w) = refl
same_bytes t (Trapped c w) = refl

module _ (p : Program) (parts : Parts) (q : IsImageOf p parts) where
  abbrev first_bytes : ℕ → ℕ
  first_bytes = (program_space parts).byte

  abbrev low : ℕ
  low = data_end parts

  abbrev pub wide : Space
  wide = space_from parts low (program_space parts)

  abbrev pub P : Permits
  P = record { can_read = wide.can_read; can_write = wide.can_write; can_execute = wide.can_execute }

  abbrev F : Fixed
  F = fixed P first_bytes

  abbrev pub G : Ground
  G = ground_at p F q.assembled.env low (whole.data_at p parts q) text_start (λ k. 0) first_bytes

  low_fits : low ≤ stack_start parts.stack
  low_fits = omega (arith, q.size, q.stack.2)

  pub apart : (a : ℕ) → P.can_execute a ≡ true → P.can_write a ≡ false
  unfolding program_space
  apart a e =
      let r = within_low text_start (length parts.text) a e in
      or_none (is_data parts a) (is_within low (stack_end - low) a) (below_not (data_start (length parts.text)) (length parts.statics) a (omega (arith, r.0, r.1)))
      (below_not low (stack_end - low) a (omega (arith, r.1)))

  pub laid : Laid p F q.assembled.env low (whole.data_at p parts q) text_start (whole.past_text p parts q) (λ k. 0) first_bytes
  laid =
      let l = whole.laid p parts q in
      record {
        sound = l.sound;
        stands = l.stands;
        aligned = l.aligned;
        low = l.low;
        stack_read = λ a lo lt. or_right (is_data parts a) (is_within low (stack_end - low) a) (within_is low (stack_end - low) a lo (omega (arith, lt, low_fits)));
        stack_written = λ a lo lt. or_right (is_data parts a) (is_within low (stack_end - low) a) (within_is low (stack_end - low) a lo (omega (arith, lt, low_fits)));
        data_read = λ a lo lt. or_left (is_data parts a) (is_within low (stack_end - low) a) (within_is (data_start (length parts.text)) (length parts.statics) a lo (omega (arith, lt, whole.count p parts q)));
        data_written = λ a lo lt. or_left (is_data parts a) (is_within low (stack_end - low) a) (within_is (data_start (length parts.text)) (length parts.statics) a lo (omega (arith, lt, whole.count p parts q)));
        data_aligned = l.data_aligned;
        data_below = omega (arith, whole.count p parts q);
        floor_below = omega (arith, low_fits);
        small = l.small;
        bytes = l.bytes;
        statics = l.statics;
      }

  ready : Ready G
  ready = is_ready p F q.assembled.env low (whole.data_at p parts q) text_start (whole.past_text p parts q) (λ k. 0) first_bytes laid

  within_gap : (a : ℕ) → is_stack parts a ≡ true → is_within low (stack_end - low) a ≡ true
  within_gap a e =
      let r = within_low (stack_start parts.stack) parts.stack a e in
      within_is low (stack_end - low) a (omega (arith, r.0, low_fits)) (omega (arith, r.1, q.stack.2, low_fits))

  pub widens : Widens (program_space parts) wide
  unfolding program_space
  widens = record {
    allows = record {
      reads = λ a e. or_more (is_data parts a) (is_stack parts a) (is_within low (stack_end - low) a) (within_gap a) e;
      writes = λ a e. or_more (is_data parts a) (is_stack parts a) (is_within low (stack_end - low) a) (within_gap a) e;
      executes = λ a e. e;
    };
    executes = λ a. refl;
  }

  -- ---- what is between the data and the stack is zero, and stays so

  gap_is_zero : (a : ℕ) → low ≤ a → a < stack_start parts.stack → first_bytes a ≡ 0
  unfolding program_space
  gap_is_zero a lo hi =
      let text : is_text parts a ≡ false = past_not text_start (length parts.text) a (omega (arith, lo)) in
      let none : is_data parts a ≡ false = past_not (data_start (length parts.text)) (length parts.statics) a lo in
      rw (text, none) refl

  gap_is_kept : (a : ℕ) → low ≤ a → a < stack_start parts.stack → (program_space parts).can_write a ≡ false
  unfolding program_space
  gap_is_kept a lo hi =
      or_none (is_data parts a) (is_stack parts a) (past_not (data_start (length parts.text)) (length parts.statics) a lo) (below_not (stack_start parts.stack) parts.stack a hi)

  abbrev IsZeroBelow : (ℕ → ℕ) → Type 0
  IsZeroBelow b = (a : ℕ) → low ≤ a → a < stack_start parts.stack → b a ≡ 0

  word_is_zero : (b : ℕ → ℕ) → IsZeroBelow b → (a : ℕ) → low ≤ a → a + 4 ≤ stack_start parts.stack → word_at b a ≡ 0
  word_is_zero b zeros a lo hi =
      rw (zeros a lo (omega (arith, hi)), zeros (a + 1) (omega (arith, lo)) (omega (arith, hi)), zeros (a + 2) (omega (arith, lo)) (omega (arith, hi)), zeros (a + 3) (omega (arith, lo)) (omega (arith, hi))) refl

  calls_go_on : (near : Bool) (a to next : ℕ) → CallAt near G.machine.text a to next → a + 4 ≤ next
  calls_go_on true a to next q = omega (arith, q.next_is)
  calls_go_on false a to next q = omega (arith, q.next_is)

  -- no call returns to address zero
  returns_past_zero : (ws : List Frame) (b s : ℕ → ℕ) (base ra : ℕ) → AreBehindCalls p ws → Waits G ws b s base ra → ra ≡ 0 → ⊥
  returns_past_zero [] b s base ra callers st e = omega (arith, st.3, e)
  returns_past_zero (w ∷ ws) b s base ra callers st e =
      let c = callers.0 in
      let next = calls_go_on (calls_are_near G.program) (address G w.function c.0) (G.env c.1) (address G w.function (c.0 + 1)) (ready.calls w.function c.0 c.1 c.3) in
      let same : address G w.function w.at ≡ address G w.function (c.0 + 1) = ap (address G w.function) c.2 in
      omega (arith, next, same, st.0.at_is, e)

  -- so no frame of a waiting call is below the stack as a whole
  waits_not_below : (ws : List Frame) (b s : ℕ → ℕ) (base ra : ℕ) → IsZeroBelow b → AreBehindCalls p ws → Waits G ws b s base ra → low ≤ base → base + 2 ^ 24 ≤ stack_start parts.stack → ⊥
  waits_not_below [] b s base ra zeros callers st lo hi = omega (arith, st.0, hi, q.stack.1)
  waits_not_below (w ∷ ws) b s base ra zeros callers st lo hi =
      let f = function_at p w.function in
      let small = (function_fits p q.sound w.function).small in
      let at = word_is_zero b zeros (base + return_home f) (omega (arith, lo)) (omega (arith, hi, small)) in
      returns_past_zero ws b (file_below f b base s) (base + frame_bytes f) (word_at b (base + return_home f)) callers.1 st.2 at

  pub cannot_be_same : (input : List ℕ) (k : ℕ) (s : State) → StandsAt P G s (rvrun k (loose_world wide (start_world (program_image parts) input))) → IsSame wide k (start_world (program_image parts) input)
      → AreBehindCalls p s.waiting → 2 ^ 26 ≤ bytes_of p (s.frame ∷ s.waiting) → ⊥
  cannot_be_same input k s at same callers large =
      let begin = start_world (program_image parts) input in
      let m = at.matched in
      let f = function_at p s.frame.function in
      let small = (function_fits p q.sound s.frame.function).small in
      let bytes : at.b ≡ (world_of (rvrun k begin)).machine.space.byte = ap (λ z. (world_of z).machine.space.byte) (sym at.is ∙ same) ∙ same_bytes wide (rvrun k begin) in
      let kept = run_permits k begin in
      let zeros : IsZeroBelow at.b = λ a lo hi. ap (λ g. g a) bytes ∙ (kept.bytes a (gap_is_kept a lo hi) ∙ gap_is_zero a lo hi) in
      waits_not_below s.waiting at.b (file_below f at.b m.sp (file_of at.r)) (m.sp + frame_bytes f) (return_at f at.b m.sp (at.r 1)) zeros callers m.waits (omega (arith, m.low))
      (omega (arith, at.sum, large, small, q.stack.2))

  -- ---- the depth of flat code that fits

  abbrev pub at_step : List ℕ → ℕ → Progress
  at_step input i = run p i (start p input)

  -- the next step is the first whose frames do not fit
  pub record Bursts (input : List ℕ) (m : ℕ) : Type 0 where
    pub j : ℕ
    pub before : j < m
    pub state : State
    pub behind : State
    pub here : at_step input j ≡ running state
    pub next : step p state ≡ running behind
    pub fits : (i : ℕ) → i ≤ j → HasRoom G (at_step input i)
    pub large : stack_end < low + bytes_of p (behind.frame ∷ behind.waiting)

  start_fits : (input : List ℕ) → HasRoom G (at_step input 0)
  start_fits input = let small = (function_fits p q.sound p.main).small in omega (arith, small, low_fits, q.size)

  only_running : (x : Progress) → goes_on x (λ s. running s) ≡ x
  only_running (running s) = refl
  only_running (ended status left trace) = refl
  only_running stuck = refl

  module _ (input : List ℕ) where
    stepped : (m : ℕ) (s : State) → at_step input m ≡ running s → at_step input (m + 1) ≡ step p s
    stepped m s e = run_both p m 1 (start p input) ∙ (ap (λ x. goes_on x (run p 1)) e ∙ only_running (step p s))

    came_from : (m : ℕ) (t : State) (x : Progress) → at_step input m ≡ x → at_step input (m + 1) ≡ running t → (s : State) × (at_step input m ≡ running s) × (step p s ≡ running t)
    came_from m t (running s) e f = (s, e, sym (stepped m s e) ∙ f)
    came_from m t (ended status left trace) e f = let gone = sym f ∙ (run_both p m 1 (start p input) ∙ ap (λ x. goes_on x (run p 1)) e) in cc
    came_from m t stuck e f = let gone = sym f ∙ (run_both p m 1 (start p input) ∙ ap (λ x. goes_on x (run p 1)) e) in cc

    fits_more : (m : ℕ) → ((i : ℕ) → i ≤ m → HasRoom G (at_step input i)) → HasRoom G (at_step input (m + 1)) → (i : ℕ) → i ≤ m + 1 → HasRoom G (at_step input i)
    fits_more m each last i le =
        bool_cases (nat_le i m)
        (λ t. each i (grind (arith, nat_tests)))
        (λ t. let same : m + 1 ≡ i = grind (arith, nat_tests) in subst (λ k. HasRoom G (at_step input k)) same last)

    next_fits : (m : ℕ) → ((i : ℕ) → i ≤ m → HasRoom G (at_step input i)) → (x : Progress) → at_step input (m + 1) ≡ x → ((i : ℕ) → i ≤ m + 1 → HasRoom G (at_step input i)) ⊎ Bursts input (m + 1)
    next_fits m each (running t) e =
        bool_cases (nat_le (low + bytes_of p (t.frame ∷ t.waiting)) stack_end)
        (λ y. let fit : HasRoom G (running t) = grind (arith, nat_tests) in inl (fits_more m each (subst (HasRoom G) (sym e) fit)))
        (λ y.
        let from = came_from m t (at_step input m) refl e in
        inr (record { j = m; before = omega arith; state = from.0; behind = t; here = from.1; next = from.2; fits = each; large = grind (arith, nat_tests) }))
    next_fits m each (ended status left trace) e = inl (fits_more m each (subst (HasRoom G) (sym e) tt))
    next_fits m each stuck e = inl (fits_more m each (subst (HasRoom G) (sym e) tt))

    pub fits_or_bursts : (m : ℕ) → ((i : ℕ) → i ≤ m → HasRoom G (at_step input i)) ⊎ Bursts input m
    fits_or_bursts zero = inl (λ i le. let none : 0 ≡ i = omega (arith, le) in subst (λ k. HasRoom G (at_step input k)) none (start_fits input))
    fits_or_bursts (suc m) =
        let one_more : m + 1 ≡ suc m = omega arith in
        elim (fits_or_bursts m) [
          | inl each ↦ subst (λ k. ((i : ℕ) → i ≤ k → HasRoom G (at_step input i)) ⊎ Bursts input k) one_more (next_fits m each (at_step input (m + 1)) refl)
          | inr b ↦ inr (record { j = b.j; before = omega (arith, b.before); state = b.state; behind = b.behind; here = b.here; next = b.next; fits = b.fits; large = b.large })
        ]
