-- A step of flat code touches nothing of the stack below the stack pointer: if less of the stack is readable and writable, the machine follows it too.
use Rattle.std.proofs.Common.{◌≡◌, ℕ, ◌+◌, ◌-◌, ◌%◌, ◌<◌, ◌≤◌, List, [], ◌∷◌, length, true, false, ◌&&◌, Ok, None, refl, sym, ap, ◌∙◌, subst, arith, eqb}
use Rattle.std.specs.Prelude.{replicate, if◌then◌else◌}
use Rattle.std.proofs.lemmas.Bool.Decides.{nat_tests}
use Rattle.rv32.specs.Words.{decode_of}
use Rattle.rv32.specs.Space.{Space, all_four, word_at}
use Rattle.rv32.specs.Step.{register}
use Rattle.memory_map.specs.MemoryMap.{text_start, data_start, stack_end, stack_start}
use Rattle.loader.specs.File.{file_image}
use Rattle.elf_out.specs.Layout.{Parts}
use Rattle.elf_out.specs.Program.{program_space, program_image, is_within, is_data, is_stack}
use Rattle.elf_out.proofs.Memory.{written_image}
use Rattle.frames_code.specs.Code.{Function, Program, frame_bytes}
use Rattle.frames_code.specs.Run.{Values, Bytes, Frame, State, Progress, running, ended, stuck, function_at, bytes_of, goes_on, run, step, start}
use Rattle.csem_events.specs.Events.{Event}
use Rattle.frames_correct.proofs.Runs.{run_both}
use Rattle.sim.specs.Runs.{World, Running, rvrun, start_world, tick_of}
use Rattle.select_exec.specs.Light.{Fixed}
use Rattle.select_exec.specs.Whole.{Permits, fixed}
use Rattle.select_exec.specs.Worlds.{world}
use Rattle.select_exec.proofs.Placing.{stands_in}
use Rattle.select.specs.Selected.{return_home}
use Rattle.select.specs.Program.{program_items}
use Rattle.select_correct.specs.Laws.{AreBytes}
use Rattle.select_correct.specs.Matches.{Ground, Ready, FrameHolds, Waits, Matched, HasRoom, address, file_of, file_below, return_at}
use Rattle.select_correct.specs.Runs.{Laid, StandsWith, ground_at}
use Rattle.select_correct.specs.Standing.{StandsAt}
use Rattle.select_correct.proofs.Laying.{is_ready}
use Rattle.select_correct.proofs.Real.{stands, step_stands}
use Rattle.cc_backend.specs.FlatImages.{IsImageOf, FitStack}
use Rattle.cc_backend.proofs.FlatImages as whole
use Rattle.cc_backend.proofs.Plain.{bool_cases, and_left, and_right}
use Rattle.cc_backend.proofs.FlatImages.{within_low, within_is, below_not, or_left, or_right, or_none}
use Rattle.cc_laws.specs.Laws.{IsInside, space_from, lower, FilesStayAbove}
use Rattle.cc_laws.proofs.Conventions.{fits}
use Rattle.cc_laws.proofs.Permissions as kept
use Rattle.cc_laws.proofs.Permissions.{world_of, run_permits}
use Rattle.cc_laws.proofs.Composed.{rvrun_more, rvrun_on}
use Rattle.cc_laws.proofs.Steps.{inside_now}
use Rattle.cc_laws.proofs.Whole.{kept_inside}
use Rattle.cc_laws.proofs.Loosening.{loose, loose_world, Allows, runs_loosely}
use Rattle.cc_laws.proofs.Touching.{or_more, goes_before}

pub lower_left : (a b : ℕ) → lower a b ≤ a
lower_left a b = grind (arith, nat_tests)

pub lower_right : (a b : ℕ) → lower a b ≤ b
lower_right a b = grind (arith, nat_tests)

pub lower_both : (a b c : ℕ) → c ≤ a → c ≤ b → c ≤ lower a b
lower_both a b c x y = grind (arith, nat_tests)

module _ (p : Program) (parts : Parts) (q : IsImageOf p parts) where
  abbrev pub first_bytes : ℕ → ℕ
  first_bytes = (program_space parts).byte

  abbrev pub G0 : Ground
  G0 = ground_at p (whole.F p parts q) q.assembled.env (whole.floor p parts q) (whole.data_at p parts q) text_start (λ k. 0) first_bytes

  pub text_apart : (a : ℕ) → (program_space parts).can_execute a ≡ true → (program_space parts).can_write a ≡ false
  unfolding program_space
  text_apart a e =
      let r = within_low text_start (length parts.text) a e in
      or_none (is_data parts a) (is_stack parts a) (below_not (data_start (length parts.text)) (length parts.statics) a (omega (arith, r.0, r.1)))
      (below_not (stack_start parts.stack) parts.stack a (omega (arith, r.1, q.size, q.stack.2)))

  -- ---- less of the stack, from memory b on

  module _ (low : ℕ) (b : ℕ → ℕ) (hi : stack_start parts.stack ≤ low) (lt : low ≤ stack_end) (text : (a : ℕ) → (program_space parts).can_execute a ≡ true → b a ≡ first_bytes a) where
    abbrev pub inner : Space
    inner = space_from parts low (program_space parts)

    abbrev pub tight : Permits
    tight = record { can_read = inner.can_read; can_write = inner.can_write; can_execute = inner.can_execute }

    abbrev pub F1 : Fixed
    F1 = fixed tight b

    abbrev pub G1 : Ground
    G1 = ground_at p F1 q.assembled.env low (whole.data_at p parts q) text_start (λ k. 0) first_bytes

    pub apart : (a : ℕ) → tight.can_execute a ≡ true → tight.can_write a ≡ false
    unfolding program_space
    apart a e =
        let r = within_low text_start (length parts.text) a e in
        or_none (is_data parts a) (is_within low (stack_end - low) a) (below_not (data_start (length parts.text)) (length parts.statics) a (omega (arith, r.0, r.1)))
        (below_not low (stack_end - low) a (omega (arith, r.1, q.size, q.stack.2, hi)))

    same_text : (x : ℕ) → (whole.F p parts q).text x ≡ F1.text x
    same_text x =
        let f = (program_space parts).can_execute in
        bool_cases (eqb (x % 4) 0 && all_four f x)
        (λ e.
        let p4 = and_right _ _ e in
        let p3 = and_right _ _ p4 in
        let r = and_left _ _ p4 in
        let p2 = and_right _ _ r in
        let r2 = and_left _ _ r in
        let p1 = and_right _ _ r2 in
        let p0 = and_left _ _ r2 in
        let w : word_at b x ≡ word_at first_bytes x = rw (text x p0, text (x + 1) p1, text (x + 2) p2, text (x + 3) p3) refl in
        sym (ap (λ z. if eqb (x % 4) 0 && all_four f x then decode_of z else None) w))
        (λ e. rw e refl)

    pub laid : Laid p F1 q.assembled.env low (whole.data_at p parts q) text_start (whole.past_text p parts q) (λ k. 0) first_bytes
    laid =
        let l = whole.laid p parts q in
        record {
          sound = l.sound;
          stands = stands_in (whole.F p parts q).text F1.text q.assembled.env (whole.data_at p parts q) (program_items p) text_start (whole.past_text p parts q) refl (λ x lo up al. same_text x) l.stands;
          aligned = l.aligned;
          low = l.low;
          stack_read = λ a lo up. or_right (is_data parts a) (is_within low (stack_end - low) a) (within_is low (stack_end - low) a lo (omega (arith, up, lt)));
          stack_written = λ a lo up. or_right (is_data parts a) (is_within low (stack_end - low) a) (within_is low (stack_end - low) a lo (omega (arith, up, lt)));
          data_read = λ a lo up. or_left (is_data parts a) (is_within low (stack_end - low) a) (within_is (data_start (length parts.text)) (length parts.statics) a lo (omega (arith, up, whole.count p parts q)));
          data_written = λ a lo up. or_left (is_data parts a) (is_within low (stack_end - low) a) (within_is (data_start (length parts.text)) (length parts.statics) a lo (omega (arith, up, whole.count p parts q)));
          data_aligned = l.data_aligned;
          data_below = omega (arith, l.data_below, hi);
          floor_below = lt;
          small = l.small;
          bytes = l.bytes;
          statics = l.statics;
        }

    pub ready : Ready G1
    ready = is_ready p F1 q.assembled.env low (whole.data_at p parts q) text_start (whole.past_text p parts q) (λ k. 0) first_bytes laid

    frame_same : (f : Function) (cells : Values) (area : Bytes) (c : ℕ → ℕ) (at : ℕ) (s : ℕ → ℕ) → FrameHolds G0 f cells area c at s → FrameHolds G1 f cells area c at s
    frame_same f cells area c at s h = record { aligned = h.aligned; small = h.small; cells = h.cells; area = h.area }

    waits_same : (ws : List Frame) (c s : ℕ → ℕ) (base to : ℕ) → Waits G0 ws c s base to → Waits G1 ws c s base to
    waits_same [] c s base to st = st
    waits_same (w ∷ ws) c s base to st =
        let f = function_at p w.function in (
          record { at_is = st.0.at_is; aligned = st.0.aligned; small = st.0.small; calls = st.0.calls; seen = st.0.seen },
          frame_same f w.cells w.area c base s st.1,
          waits_same ws c (file_below f c base s) (base + frame_bytes f) (word_at c (base + return_home f)) st.2,
        )

    pub matched_same : (s : State) (r : ℕ → ℕ) (at : ℕ) (c : ℕ → ℕ) → (m : Matched G0 s r at c) → low ≤ m.sp → Matched G1 s r at c
    matched_same s r at c m le =
        let f = function_at p s.frame.function in
        record {
          sp = m.sp;
          at_is = m.at_is;
          sp_is = m.sp_is;
          gp_is = m.gp_is;
          low = le;
          bytes = m.bytes;
          frame = frame_same f s.frame.cells s.frame.area c m.sp (file_of r) m.frame;
          temporaries = m.temporaries;
          arguments = m.arguments;
          statics = m.statics;
          waits = waits_same s.waiting c (file_below f c m.sp (file_of r)) (m.sp + frame_bytes f) (return_at f c m.sp (r 1)) m.waits;
        }

    within_stack : (a : ℕ) → is_within low (stack_end - low) a ≡ true → is_stack parts a ≡ true
    within_stack a e =
        let r = within_low low (stack_end - low) a e in
        within_is (stack_start parts.stack) parts.stack a (omega (arith, r.0, hi)) (omega (arith, r.1, lt, q.stack.2))

    pub allows : Allows inner (program_space parts)
    unfolding program_space
    allows = record {
      reads = λ a e. or_more (is_data parts a) (is_within low (stack_end - low) a) (is_stack parts a) (within_stack a) e;
      writes = λ a e. or_more (is_data parts a) (is_within low (stack_end - low) a) (is_stack parts a) (within_stack a) e;
      executes = λ a e. e;
    }

    module _ (list : List ℕ) (at : ℕ) (input : List ℕ) (trace : List Event) where
      abbrev from : World
      from = world tight list at b input trace

      from_allows : Allows from.machine.space (program_space parts)
      from_allows = record { reads = allows.reads; writes = allows.writes; executes = allows.executes }

      -- an instruction on the way, if the run with less of the stack goes the whole way
      inside_step : (i j : ℕ) (u w : World) → i < j → rvrun j from ≡ Running w → rvrun i (loose_world (program_space parts) from) ≡ Running u → IsInside inner u.machine
      inside_step i j u w lj e f =
          let here = goes_before i j from w (omega (arith, lj)) e in
          let x = here.0 in
          let further = goes_before (i + 1) j from w (omega (arith, lj)) e in
          let ticked : tick_of x ≡ Running further.0 = sym (rvrun_more i from x here.1) ∙ further.1 in
          let now = inside_now x (λ c y traps. let both = sym ticked ∙ traps in cc) in
          let permits : kept.Permits from.machine.space x.machine.space = subst (λ z. kept.Permits from.machine.space (world_of z).machine.space) here.1 (run_permits i from) in
          let inside = kept_inside from.machine.space x.machine permits now in
          let equal : Running (loose_world (program_space parts) x) ≡ Running u = sym (runs_loosely (program_space parts) i from x from_allows here.1) ∙ f in
          let so : IsInside inner (loose (program_space parts) x.machine) = record { fetches = inside.fetches; loads = inside.loads; stores = inside.stores; gets = inside.gets; puts = inside.puts } in
          subst (λ z. IsInside inner (world_of z).machine) equal so

  -- ---- the state of the run

  pub room_whole : (x : Progress) → FitStack parts.stack p x → HasRoom G0 x
  room_whole (running s) fit = omega (arith, fit, q.stack.2)
  room_whole (ended status input trace) fit = tt
  room_whole stuck fit = tt

  abbrev pub begin : List ℕ → World
  begin input = start_world (program_image parts) input

  module _ (input : List ℕ) (bytes : AreBytes input) (fit : (k : ℕ) → FitStack parts.stack p (run p k (start p input))) where
    at : (n : ℕ) (s : State) → run p n (start p input) ≡ running s → (k : ℕ) × StandsAt (whole.permits p parts q) G0 s (rvrun k (begin input))
    at n s over =
        stands (whole.permits p parts q) (whole.low p parts q) text_apart p q.assembled.env (whole.floor p parts q) (whole.data_at p parts q) text_start (whole.past_text p parts q) (λ k. 0) first_bytes (replicate 32 0) input
        (whole.laid p parts q) (whole.zero_registers p parts q) bytes n s over (λ k le. room_whole (run p k (start p input)) (fit k))

    above : (n : ℕ) (s t : State) → run p n (start p input) ≡ running s → step p s ≡ running t
        → (k j : ℕ) × (v w : World) × (rvrun k (begin input) ≡ Running v) × StandsWith p q.assembled.env s v × (rvrun (k + j) (begin input) ≡ Running w) × StandsWith p q.assembled.env t w
        × ((i : ℕ) (u : World) → i < j → rvrun (k + i) (begin input) ≡ Running u
        → IsInside (space_from parts (lower (register v.machine 2) (register w.machine 2)) (program_space parts)) u.machine)
    above n s t over e =
        let z = at n s over in
        let k = z.0 in
        let a = z.1 in
        let P = whole.permits p parts q in
        let here = address G0 s.frame.function s.frame.at in
        let v = world P a.list here a.b s.input s.trace in
        let m = a.matched in
        let kept_text : kept.Permits (program_space parts) v.machine.space = subst (λ x. kept.Permits (program_space parts) (world_of x).machine.space) a.is (run_permits k (begin input)) in
        let text : (x : ℕ) → (program_space parts).can_execute x ≡ true → a.b x ≡ first_bytes x = λ x yes. kept_text.bytes x (text_apart x yes) in
        let sum = a.sum in
        let next_is : run p (n + 1) (start p input) ≡ running t = run_both p n 1 (start p input) ∙ ap (λ x. goes_on x (run p 1)) over ∙ ap (λ x. goes_on x (run p 0)) e in
        let taken : bytes_of p (t.frame ∷ t.waiting) ≤ parts.stack = subst (FitStack parts.stack p) next_is (fit (n + 1)) in
        let then_sp = stack_end - bytes_of p (t.frame ∷ t.waiting) in
        let low = lower m.sp then_sp in
        let left = lower_left m.sp then_sp in
        let right = lower_right m.sp then_sp in
        let hi : stack_start parts.stack ≤ low = lower_both m.sp then_sp (stack_start parts.stack) m.low (omega (arith, taken)) in
        let lt : low ≤ stack_end = omega (arith, left, sum) in
        let fits_then : low + bytes_of p (t.frame ∷ t.waiting) ≤ stack_end = omega (arith, right, taken, q.stack.2) in
        let c = step_stands (tight low a.b hi lt text) (whole.low p parts q) (apart low a.b hi lt text) p q.assembled.env low (whole.data_at p parts q) text_start (λ k. 0) first_bytes a.b (ready low a.b hi lt text)
        s t a.list a.r a.shows a.small (matched_same low a.b hi lt text s a.r here a.b m left) a.input e fits_then in
        let source = from low a.b hi lt text a.list here s.input s.trace in
        let st = c.3 in
        let w = loose_world (program_space parts) c.1 in
        let there : rvrun c.0 v ≡ Running w = runs_loosely (program_space parts) c.0 source c.1 (from_allows low a.b hi lt text a.list here s.input s.trace) c.2 in
        let stands_w : StandsWith p q.assembled.env t w = record { pc = st.pc; sp = st.sp; aligned = st.aligned; registers = st.registers; stack = st.stack; trace = st.trace; input = st.input } in
        let sp_v : register v.machine 2 ≡ m.sp = omega (arith, a.stands.sp, sum) in
        let sp_w : register w.machine 2 ≡ then_sp = omega (arith, stands_w.sp) in
        let both_are : lower (register v.machine 2) (register w.machine 2) ≡ low = ap (λ x. lower x (register w.machine 2)) sp_v ∙ ap (λ x. lower m.sp x) sp_w in (
          k,
          c.0,
          v,
          w,
          a.is,
          a.stands,
          rvrun_on k c.0 (k + c.0) (begin input) v a.is refl ∙ there,
          stands_w,
          λ i u li f.
              subst (λ x. IsInside (space_from parts x (program_space parts)) u.machine) (sym both_are)
              (inside_step low a.b hi lt text a.list here s.input s.trace i c.0 u c.1 li c.2 (sym (rvrun_on k i (k + i) (begin input) v a.is refl) ∙ f)),
        )

pub files_stay_above : FilesStayAbove
files_stay_above stack p file frames made =
    let image = program_image made.parts in (
      image,
      subst (λ f. file_image f ≡ Ok image) (sym made.file_is) (written_image made.parts made.image_is.size made.image_is.stack.2),
      λ input bytes fine n s t over e. above made.code made.parts made.image_is input bytes (fits stack p file frames made input bytes fine) n s t over e,
    )
