-- A run touches the stack no deeper than the frames of its calls: with less of the stack readable and writable it takes the same steps.
use Rattle.std.proofs.Common.{◌≡◌, ℕ, ◌+◌, ◌-◌, ◌*◌, ◌<◌, ◌≤◌, List, [], length, Bool, true, false, ◌||◌, Ok, refl, sym, ap, ◌∙◌, subst, arith}
use Rattle.std.specs.Prelude.{replicate}
use Rattle.rv32.specs.declared.state.Cause.{Cause}
use Rattle.rv32.specs.Space.{Space}
use Rattle.memory_map.specs.MemoryMap.{text_start, data_start, stack_end, stack_start}
use Rattle.loader.specs.File.{file_image}
use Rattle.elf_out.specs.Layout.{Parts}
use Rattle.elf_out.specs.Program.{program_space, program_image, is_within, is_data, is_stack}
use Rattle.elf_out.proofs.Memory.{written_image}
use Rattle.frames_code.specs.Code.{Program}
use Rattle.frames_code.specs.Run.{State, Progress, running, ended, stuck, run, start}
use Rattle.sim.specs.Runs as sim
use Rattle.sim.specs.Runs.{World, Running, Ended, Trapped, rvrun, start_world, tick_of}
use Rattle.cc_laws.proofs.Composed.{rvrun_more}
use Rattle.select_exec.specs.Whole.{Permits, fixed}
use Rattle.select_exec.specs.Worlds.{world}
use Rattle.select_exec.proofs.Keeping.{runs_keep}
use Rattle.select_correct.specs.Laws.{AreBytes}
use Rattle.select_correct.specs.Matches.{HasRoom}
use Rattle.select_correct.specs.Runs.{Laid, StandsWith, ground_at, slack}
use Rattle.select_correct.proofs.Real.{goes_on}
use Rattle.cc_backend.specs.FlatImages.{IsImageOf, FitStack}
use Rattle.cc_backend.proofs.FlatImages as whole
use Rattle.cc_backend.proofs.FlatImages.{within_low, within_is, below_not, or_left, or_right, or_none}
use Rattle.cc_laws.specs.Laws.{IsInside, space_from, FilesTouchTheirFrames}
use Rattle.cc_laws.proofs.Permissions as kept
use Rattle.cc_laws.proofs.Permissions.{world_of, run_permits}
use Rattle.cc_laws.proofs.Steps.{inside_now}
use Rattle.cc_laws.proofs.Whole.{kept_inside}
use Rattle.cc_laws.proofs.Loosening.{loose, loose_world, Allows, runs_loosely}

pub or_more : (a b c : Bool) → (b ≡ true → c ≡ true) → (a || b) ≡ true → (a || c) ≡ true
or_more true b c h e = refl
or_more false b c h e = h e

-- ---- runs that reach a state from which they go on

abbrev pub GoesOn : sim.Progress → Type 0
GoesOn x = (v : World) × (x ≡ Running v)

goes_on_if : (x : sim.Progress) → ((status : ℕ) (v : World) → x ≡ Ended status v → ⊥) → ((c : Cause) (v : World) → x ≡ Trapped c v → ⊥) → GoesOn x
goes_on_if (Running v) h g = (v, refl)
goes_on_if (Ended status v) h g = absurd (h status v refl)
goes_on_if (Trapped c v) h g = absurd (g c v refl)

pub goes_before : (j k : ℕ) (w v : World) → j ≤ k → rvrun k w ≡ Running v → GoesOn (rvrun j w)
goes_before j k w v le e =
    let sum : j + (k - j) ≡ k = omega (arith, le) in
    let later : rvrun (j + (k - j)) w ≡ Running v = ap (λ n. rvrun n w) sum ∙ e in
    let keep = runs_keep j (k - j) w in
    goes_on_if (rvrun j w)
    (λ status u f. let both = sym (keep.1 status u f) ∙ later in cc)
    (λ c u f. let both = sym (keep.2 c u f) ∙ later in cc)

-- ---- an image with less of its stack

module _ (p : Program) (parts : Parts) (q : IsImageOf p parts) (most : ℕ) (le : most ≤ parts.stack) where
  abbrev low : ℕ
  low = stack_end - most

  abbrev inner : Space
  inner = space_from parts low (program_space parts)

  abbrev tight : Permits
  tight = record { can_read = inner.can_read; can_write = inner.can_write; can_execute = inner.can_execute }

  apart : (a : ℕ) → tight.can_execute a ≡ true → tight.can_write a ≡ false
  unfolding program_space
  apart a e =
      let r = within_low text_start (length parts.text) a e in
      or_none (is_data parts a) (is_within low (stack_end - low) a) (below_not (data_start (length parts.text)) (length parts.statics) a (omega (arith, r.0, r.1)))
      (below_not low (stack_end - low) a (omega (arith, r.1, q.size, q.stack.2, le)))

  laid : Laid p (fixed tight (program_space parts).byte) q.assembled.env low (whole.data_at p parts q) text_start (whole.past_text p parts q) (λ k. 0) (program_space parts).byte
  laid =
      let l = whole.laid p parts q in
      record {
        sound = l.sound;
        stands = l.stands;
        aligned = l.aligned;
        low = l.low;
        stack_read = λ a lo lt. or_right (is_data parts a) (is_within low (stack_end - low) a) (within_is low (stack_end - low) a lo (omega (arith, lt, le, q.stack.2)));
        stack_written = λ a lo lt. or_right (is_data parts a) (is_within low (stack_end - low) a) (within_is low (stack_end - low) a lo (omega (arith, lt, le, q.stack.2)));
        data_read = λ a lo lt. or_left (is_data parts a) (is_within low (stack_end - low) a) (within_is (data_start (length parts.text)) (length parts.statics) a lo (omega (arith, lt, whole.count p parts q)));
        data_written = λ a lo lt. or_left (is_data parts a) (is_within low (stack_end - low) a) (within_is (data_start (length parts.text)) (length parts.statics) a lo (omega (arith, lt, whole.count p parts q)));
        data_aligned = l.data_aligned;
        data_below = omega (arith, l.data_below, le);
        floor_below = omega arith;
        small = l.small;
        bytes = l.bytes;
        statics = l.statics;
      }

  room : (x : Progress) → FitStack most p x → HasRoom (ground_at p (fixed tight (program_space parts).byte) q.assembled.env low (whole.data_at p parts q) text_start (λ k. 0) (program_space parts).byte) x
  room (running s) fit = omega (arith, fit, le, q.stack.2)
  room (ended status input trace) fit = tt
  room stuck fit = tt

  -- an address in the stack above `low` is in the stack
  within_stack : (a : ℕ) → is_within low (stack_end - low) a ≡ true → is_stack parts a ≡ true
  within_stack a e =
      let r = within_low low (stack_end - low) a e in
      within_is (stack_start parts.stack) parts.stack a (omega (arith, r.0, le, q.stack.2)) (omega (arith, r.1, le, q.stack.2))

  allows : Allows inner (program_space parts)
  unfolding program_space
  allows = record {
    reads = λ a e. or_more (is_data parts a) (is_within low (stack_end - low) a) (is_stack parts a) (within_stack a) e;
    writes = λ a e. or_more (is_data parts a) (is_within low (stack_end - low) a) (is_stack parts a) (within_stack a) e;
    executes = λ a e. e;
  }

  module _ (input : List ℕ) where
    abbrev first : World
    first = world tight (replicate 32 0) text_start (program_space parts).byte input []

    -- a step that the run with less of the stack takes too
    inside_before : (j k : ℕ) (v w : World) → j < k → rvrun k first ≡ Running w → rvrun j (start_world (program_image parts) input) ≡ Running v → IsInside inner v.machine
    inside_before j k v w lt e f =
        let here = goes_before j k first w (omega (arith, lt)) e in
        let u = here.0 in
        let further = goes_before (j + 1) k first w (omega (arith, lt)) e in
        let ticked : tick_of u ≡ Running further.0 = sym (rvrun_more j first u here.1) ∙ further.1 in
        let now = inside_now u (λ c x traps. let both = sym ticked ∙ traps in cc) in
        let permits : kept.Permits first.machine.space u.machine.space = subst (λ x. kept.Permits first.machine.space (world_of x).machine.space) here.1 (run_permits j first) in
        let inside : IsInside inner u.machine = kept_inside inner u.machine permits now in
        let same : Running (loose_world (program_space parts) u) ≡ Running v = sym (runs_loosely (program_space parts) j first u allows here.1) ∙ f in
        let so : IsInside inner (loose (program_space parts) u.machine) = record { fetches = inside.fetches; loads = inside.loads; stores = inside.stores; gets = inside.gets; puts = inside.puts } in
        subst (λ x. IsInside inner (world_of x).machine) same so

    touches : AreBytes input → (n : ℕ) (s : State) → run p n (start p input) ≡ running s → ((i : ℕ) → i ≤ n → FitStack most p (run p i (start p input)))
        → (k : ℕ) × (w : World) × (n < slack p * k) × (rvrun k (start_world (program_image parts) input) ≡ Running w) × StandsWith p q.assembled.env s w
        × ((j : ℕ) (v : World) → j < k → rvrun j (start_world (program_image parts) input) ≡ Running v → IsInside inner v.machine)
    touches bytes n s over fit =
        let g = goes_on tight (whole.low p parts q) apart p q.assembled.env low (whole.data_at p parts q) text_start (whole.past_text p parts q) (λ k. 0) (program_space parts).byte (replicate 32 0) input
        laid (whole.zero_registers p parts q) bytes n s over (λ i lt. room (run p i (start p input)) (fit i lt)) in
        let st = g.5 in (
          g.0,
          loose_world (program_space parts) g.1,
          g.2,
          runs_loosely (program_space parts) g.0 first g.1 allows g.4,
          record { pc = st.pc; sp = st.sp; aligned = st.aligned; registers = st.registers; stack = st.stack; trace = st.trace; input = st.input },
          λ j v lt e. inside_before j g.0 v g.1 lt g.4 e,
        )

pub files_touch_their_frames : FilesTouchTheirFrames
files_touch_their_frames stack p file frames made =
    let image = program_image made.parts in (
      image,
      subst (λ f. file_image f ≡ Ok image) (sym made.file_is) (written_image made.parts made.image_is.size made.image_is.stack.2),
      λ input bytes n most s le over fit. touches made.code made.parts made.image_is most le input bytes n s over fit,
    )
