-- At no instruction of a file's run is anything in the stack below the stack pointer loaded or stored.
use Rattle.std.proofs.Common.{◌≡◌, ◌⊎◌, ⊎_elim, ℕ, zero, suc, ◌+◌, ◌-◌, ◌*◌, ◌%◌, ◌^◌, ◌<◌, ◌≤◌, List, [], ◌∷◌, length, Bool, true, false, ◌&&◌, Option, Some, None, refl, sym, ap, ◌∙◌, subst, arith}
use Rattle.std.specs.Prelude.{replicate, if◌then◌else◌, ◌==◌}
use Rattle.std.proofs.Math.Nat.{lt_of_mul-lt-mul_left}
use Rattle.std.proofs.lemmas.Bool.{cases_lt}
use Rattle.csem_events.specs.Events.{Event}
use Rattle.rv32.specs.declared.instr.Instr.{Instr}
use Rattle.rv32.specs.declared.instr.Instr.TheVariants.{Load, Store, Ecall}
use Rattle.rv32.specs.Words.{decode_of}
use Rattle.rv32.specs.Space.{Space, all_four, word_at}
use Rattle.rv32.specs.Step.{Machine, register}
use Rattle.memory_map.specs.MemoryMap.{text_start, stack_end, stack_start}
use Rattle.elf_out.specs.Layout.{Parts}
use Rattle.elf_out.specs.Program.{program_space, program_image, is_within, is_data}
use Rattle.select_exec.specs.Standing.{Stands}
use Rattle.frames_code.specs.declared.code.Instruction.{Instruction}
use Rattle.frames_code.specs.declared.code.Instruction.TheVariants as instruction
use Rattle.frames_code.specs.Code.{Function, Program, frame_bytes}
use Rattle.frames_code.specs.Costs.{next_of, cost_on}
use Rattle.frames_code.specs.Run as flat
use Rattle.frames_code.specs.Run.{Frame, State, Progress, running, ended, stuck, entered, function_at, bytes_of, run, step, start, act, ◌>>=◌}
use Rattle.sim.specs.Runs as sim
use Rattle.sim.specs.Runs.{World, Running, Ended, rvrun, start_world, tick_of}
use Rattle.select_exec.specs.Light.{Fixed, Light, Go, Done, Fell, light_run}
use Rattle.select_exec.specs.Whole.{Permits}
use Rattle.select_exec.specs.Worlds.{Registers, world, Follows}
use Rattle.select_exec.proofs.Worlds.{real_follows}
use Rattle.select_exec.proofs.Keeping.{runs_keep}
use Rattle.select_exec.proofs.Placing.{stands_parts}
use Rattle.select_exec.proofs.Steps.{run_plus}
use Rattle.select.specs.Program.{shorten_calls, calls_are_near}
use Rattle.select.specs.Selected.{gp_offset, shortened, exit, return_home}
use Rattle.select.specs.Program.{functions_items}
use Rattle.select_correct.specs.Laws.{AreBytes}
use Rattle.select_correct.specs.Matches.{Ground, Ready, FrameHolds, Waits, Matched, Matches, HasRoom, address, first_of, file_of, file_below, return_at}
use Rattle.select_correct.specs.Costs.{row, step_cost, most_if, most_next, least_if, least_spent}
use Rattle.select_correct.specs.Runs.{slack}
use Rattle.select_correct.specs.Standing.{StandsAt}
use Rattle.select_correct.proofs.Fits.{function_fits}
use Rattle.select_correct.proofs.Frames.{sum_is}
use Rattle.select_correct.proofs.Laying.{is_ready}
use Rattle.select_correct.proofs.Progress.{progresses}
use Rattle.select_correct.proofs.Standing.{register_shown, stands_with}
use Rattle.select_correct.proofs.Steps.{step_follows, input_stays_bytes}
use Rattle.select_correct.proofs.Whole.{begins, unwatched}
use Rattle.cc_backend.specs.FlatImages.{IsImageOf, FitStack}
use Rattle.cc_backend.proofs.FlatImages as whole
use Rattle.cc_backend.proofs.FlatImages.{within_low, within_is}
use Rattle.cc_backend.proofs.Plain.{and_left, and_right}
use Rattle.cc_laws.specs.Laws.{IsInside, instruction_at, space_from, lower}
use Rattle.cc_laws.proofs.Callers.{step_is, AreBehindCalls, Within, step_within, step_level}
use Rattle.cc_laws.proofs.Permissions as kept
use Rattle.cc_laws.proofs.Permissions.{world_of, run_permits}
use Rattle.cc_laws.proofs.Composed.{rvrun_more, rvrun_on}
use Rattle.cc_laws.proofs.Steps.{inside_now}
use Rattle.cc_laws.proofs.Loosening.{loose, loose_world, loose_progress, Allows, NeverTrapped, runs_as_loosely, inside_more}
use Rattle.cc_laws.proofs.Touching.{or_more}
use Rattle.cc_laws.proofs.Following as following
use Rattle.cc_laws.proofs.Following.{lower_left, lower_right, lower_both}
use Rattle.cc_laws.proofs.Stretches.{IsIdle, IsFine, fell_stays}
use Rattle.cc_laws.proofs.Levels.{IsLevel, GoesAt, level_shortened, level_or_not, level, returns_fine, calls_fine, starts_fine, exits_fine, exits_done}

-- ---- what is idle stays inside, for any stack pointer

if_some : (t : Bool) (x : Option Instr) (k : Instr) → (if t then x else None) ≡ Some k → (t ≡ true) × (x ≡ Some k)
if_some true x k e = (refl, e)
if_some false x k e = cc

same_word : (f : ℕ → Bool) (b c : ℕ → ℕ) (x : ℕ) → all_four f x ≡ true → ((a : ℕ) → f a ≡ true → b a ≡ c a) → word_at b x ≡ word_at c x
same_word f b c x e same =
    let p3 = and_right _ _ e in
    let r = and_left _ _ e in
    let p2 = and_right _ _ r in
    let r2 = and_left _ _ r in
    let p1 = and_right _ _ r2 in
    let p0 = and_left _ _ r2 in
    rw (same x p0, same (x + 1) p1, same (x + 2) p2, same (x + 3) p3) refl

idle_other : (r : ℕ → ℕ) (k x : Instr) (o : Option Instr) → o ≡ Some k → o ≡ Some x → IsIdle r k → IsIdle r x
idle_other r k x o e f idle =
    let both : Some k ≡ Some x = sym e ∙ f in
    let same : k ≡ x = cc in
    subst (IsIdle r) same idle

idle_inside : (s : Space) (m : Machine) (r : ℕ → ℕ) (k : Instr) → instruction_at m ≡ Some k → IsIdle r k → register m 17 ≡ r 17 → all_four s.can_execute m.pc ≡ true → IsInside s m
idle_inside s m r k e idle seven may = record {
  fetches = may;
  loads = λ kind rd base v f. absurd (idle_other r k (Load kind rd base v) (instruction_at m) e f idle);
  stores = λ kind source base v f. absurd (idle_other r k (Store kind source base v) (instruction_at m) e f idle);
  gets = λ f which. let ends : r 17 ≡ 93 = idle_other r k Ecall (instruction_at m) e f idle in absurd (omega (arith, ends, which, seven));
  puts = λ f which. let ends : r 17 ≡ 93 = idle_other r k Ecall (instruction_at m) e f idle in absurd (omega (arith, ends, which, seven));
}

-- ---- runs of the light machine that have not fallen

abbrev NotFell : Light → Type 0
NotFell (Go r pc b i h) = Unit {0}
NotFell (Done s h) = Unit {0}
NotFell (Fell h) = ⊥

not_before : (F : Fixed) (k : ℕ) (m : Light) → NotFell (light_run F k m) → NotFell m
not_before F k (Go r pc b i h) n = tt
not_before F k (Done s h) n = tt
not_before F k (Fell h) n = subst NotFell (fell_stays F k h) n

never : (P : Permits) (m : Light) (x : sim.Progress) → NotFell m → Follows P m x → NeverTrapped x
never P (Go r pc b i h) x n f c v e = let both = sym f.is ∙ e in cc
never P (Done s h) x n f c v e = let both = sym f.1 ∙ e in cc
never P (Fell h) x n f c v e = absurd n

module _ (p : Program) (parts : Parts) (q : IsImageOf p parts) where
  abbrev pub IsAbove : World → Type 0
  IsAbove u = IsInside (space_from parts (register u.machine 2) (program_space parts)) u.machine

  abbrev space : Space
  space = program_space parts

  -- ---- from a world on, if less of the stack suffices

  module _ (low : ℕ) (b : ℕ → ℕ) (hi : stack_start parts.stack ≤ low) (lt : low ≤ stack_end) (text : (a : ℕ) → (program_space parts).can_execute a ≡ true → b a ≡ (program_space parts).byte a) where
    abbrev tight : Permits
    tight = following.tight p parts q low b hi lt text

    abbrev F0 : Fixed
    F0 = following.F1 p parts q low b hi lt text

    -- a lower stack pointer permits more
    widens : (sp : ℕ) → sp ≤ low → Allows (space_from parts low space) (space_from parts sp space)
    widens sp le =
        let more = λ (a : ℕ) (e : is_within low (stack_end - low) a ≡ true).
        let r = within_low low (stack_end - low) a e in
        within_is sp (stack_end - sp) a (omega (arith, r.0, le)) (omega (arith, r.1, lt, le)) in
        record {
          reads = λ a e. or_more (is_data parts a) (is_within low (stack_end - low) a) (is_within sp (stack_end - sp) a) (more a) e;
          writes = λ a e. or_more (is_data parts a) (is_within low (stack_end - low) a) (is_within sp (stack_end - sp) a) (more a) e;
          executes = λ a e. e;
        }

    module _ (list : List ℕ) (r : ℕ → ℕ) (at : ℕ) (input : List ℕ) (trace : List Event) (shows : Registers list r) (small : at < 2 ^ 32) where
      abbrev from : World
      from = world tight list at b input trace

      abbrev light_at : ℕ → Light
      light_at k = light_run F0 k (Go r at b input trace)

      follows : (k : ℕ) → Follows tight (light_at k) (rvrun k from)
      follows k = real_follows tight (whole.low p parts q) (following.apart p parts q low b hi lt text) list r at b input trace shows small k

      from_allows : Allows from.machine.space space
      from_allows = let al = following.allows p parts q low b hi lt text in record { reads = al.reads; writes = al.writes; executes = al.executes }

      -- the run with the whole stack takes the same steps
      loosely : (k : ℕ) → NotFell (light_at k) → rvrun k (loose_world space from) ≡ loose_progress space (rvrun k from)
      loosely k n = runs_as_loosely space k from from_allows (never tight (light_at k) (rvrun k from) n (follows k))

      earlier : (k j : ℕ) → k ≤ j → NotFell (light_at j) → NotFell (light_at k)
      earlier k j le n =
          let sum : k + (j - k) ≡ j = omega (arith, le) in
          not_before F0 (j - k) (light_at k) (subst NotFell (run_plus F0 k (j - k) (Go r at b input trace)) (subst (λ x. NotFell (light_at x)) (sym sum) n))

      -- the instruction at the pc of such a world
      text_at : (k : ℕ) (list2 : List ℕ) (at2 : ℕ) (b2 : ℕ → ℕ) (i2 : List ℕ) (h2 : List Event) → rvrun k from ≡ Running (world tight list2 at2 b2 i2 h2) → (i : Instr) → F0.text at2 ≡ Some i
          → (instruction_at (world tight list2 at2 b2 i2 h2).machine ≡ Some i) × (all_four space.can_execute at2 ≡ true)
      text_at k list2 at2 b2 i2 h2 e i t =
          let found = if_some (at2 % 4 == 0 && all_four tight.can_execute at2) (decode_of (word_at b at2)) i t in
          let may : all_four space.can_execute at2 ≡ true = and_right _ _ found.0 in
          let keeps = subst (λ x. kept.Permits from.machine.space (world_of x).machine.space) e (run_permits k from) in
          let same : (a : ℕ) → space.can_execute a ≡ true → b2 a ≡ b a = λ a yes. keeps.bytes a (following.apart p parts q low b hi lt text a yes) in
          (ap decode_of (same_word space.can_execute b2 b at2 may same) ∙ found.1, may)

      above_at : (k : ℕ) (u : World) (m : Light) (x : sim.Progress) → rvrun k from ≡ x → Follows tight m x → NotFell m → NeverTrapped (rvrun (k + 1) from) → loose_progress space x ≡ Running u → IsFine F0 low m → IsAbove u
      above_at k u (Go r2 at2 b2 i2 h2) x e f n fine_next same fine =
          let v = world tight f.list at2 b2 i2 h2 in
          let here : rvrun k from ≡ Running v = e ∙ f.is in
          let next : rvrun (k + 1) from ≡ tick_of v = rvrun_more k from v here in
          let inside = inside_now v (λ c y traps. fine_next c y (next ∙ traps)) in
          let inner : IsInside (space_from parts low space) (loose space v.machine) = record { fetches = inside.fetches; loads = inside.loads; stores = inside.stores; gets = inside.gets; puts = inside.puts } in
          let two : register v.machine 2 ≡ r2 2 = register_shown tight f.list r2 at2 b2 i2 h2 f.shows 2 (omega arith) (omega arith) in
          let seven : register v.machine 17 ≡ r2 17 = register_shown tight f.list r2 at2 b2 i2 h2 f.shows 17 (omega arith) (omega arith) in
          let equal : Running (loose_world space v) ≡ Running u = ap (loose_progress space) (sym f.is) ∙ same in
          let so : IsInside (space_from parts (register v.machine 2) space) (loose space v.machine) =
          ⊎_elim
          (λ le. inside_more (space_from parts low space) (space_from parts (register v.machine 2) space) (loose space v.machine) (widens (register v.machine 2) (omega (arith, le, two))) inner)
          (λ idle.
          let t = text_at k f.list at2 b2 i2 h2 here idle.0 idle.1 in
          idle_inside (space_from parts (register v.machine 2) space) (loose space v.machine) r2 idle.0 t.0 idle.2 seven t.1)
          fine in
          subst (λ y. IsAbove (world_of y)) equal so
      above_at k u (Done s h) x e f n fine_next same fine = absurd (let equal : Ended s (loose_world space f.0) ≡ Running u = ap (loose_progress space) (sym f.1) ∙ same in cc)
      above_at k u (Fell h) x e f n fine_next same fine = absurd n

      -- each instruction on the way
      pub on_the_way : (j k : ℕ) (u : World) → NotFell (light_at j) → ((i : ℕ) → i < j → IsFine F0 low (light_at i)) → k < j → rvrun k (loose_world space from) ≡ Running u → IsAbove u
      on_the_way j k u n fine lk e =
          let now = earlier k j (omega (arith, lk)) n in
          let later = earlier (k + 1) j (omega (arith, lk)) n in
          above_at k u (light_at k) (rvrun k from) refl (follows k) now (never tight (light_at (k + 1)) (rvrun (k + 1) from) later (follows (k + 1))) (sym (loosely k now) ∙ e) (fine k lk)

      -- if the light machine is done, the run has ended
      pub is_over : (j status : ℕ) (h : List Event) → light_at j ≡ Done status h → (v : World) × (rvrun j (loose_world space from) ≡ Ended status v)
      is_over j status h e =
          let f = subst (λ m. Follows tight m (rvrun j from)) e (follows j) in
          let n : NotFell (light_at j) = subst NotFell (sym e) tt in
          (loose_world space f.0, loosely j n ∙ ap (loose_progress space) f.1)

-- ---- the costs of instructions that are no calls

level_cost : (p : Program) (f : Function) (y : Instruction) → IsLevel y → step_cost p f y ≡ row f y
level_cost p f instruction.Nothing l = refl
level_cost p f (instruction.Move d x) l = refl
level_cost p f (instruction.Compute o d x y) l = refl
level_cost p f (instruction.Convert c d x) l = refl
level_cost p f (instruction.Load w d z) l = refl
level_cost p f (instruction.Store w x z) l = refl
level_cost p f (instruction.Address d z) l = refl
level_cost p f (instruction.Element d x y n) l = refl
level_cost p f (instruction.Jump to) l = refl
level_cost p f (instruction.Branch t x y to) l = refl
level_cost p f (instruction.Call g) l = absurd l
level_cost p f instruction.PutByte l = refl
level_cost p f instruction.GetByte l = refl
level_cost p f instruction.Exit l = refl
level_cost p f instruction.Return l = absurd l

is_call : (x : Instruction) (f : ℕ) → IsLevel x → x ≡ instruction.Call f → ⊥
is_call x f l e = subst IsLevel e l

-- ---- from one state of flat code to the next

module _ (p : Program) (parts : Parts) (q : IsImageOf p parts) (input : List ℕ) where
  abbrev begin : World
  begin = start_world (program_image parts) input

  abbrev P : Permits
  P = whole.permits p parts q

  abbrev G0 : Ground
  G0 = following.G0 p parts q

  ready0 : Ready G0
  ready0 = is_ready p (whole.F p parts q) q.assembled.env (whole.floor p parts q) (whole.data_at p parts q) text_start (whole.past_text p parts q) (λ k. 0) (program_space parts).byte (whole.laid p parts q)

  -- this holds of each instruction before the k-th
  abbrev Covered : ℕ → Type 0
  Covered k = (i : ℕ) (u : World) → i < k → rvrun i begin ≡ Running u → IsAbove p parts q u

  covers : (k j : ℕ) (v : World) → Covered k → rvrun k begin ≡ Running v → ((i : ℕ) (u : World) → i < j → rvrun i v ≡ Running u → IsAbove p parts q u) → Covered (k + j)
  covers k j v c e each i u li f =
      ⊎_elim
      (λ lt. c i u lt f)
      (λ ge.
      let is : i ≡ k + (i - k) = omega (arith, ge) in
      each (i - k) u (omega (arith, ge, li)) (sym (rvrun_on k (i - k) i begin v e is) ∙ f))
      (cases_lt i k)

  covers_all : (k status : ℕ) (v : World) → Covered k → rvrun k begin ≡ Ended status v → (n : ℕ) → Covered n
  covers_all k status v c e n i u li f =
      ⊎_elim
      (λ lt. c i u lt f)
      (λ ge.
      let is : k + (i - k) ≡ i = omega (arith, ge) in
      let stays : rvrun i begin ≡ Ended status v = ap (λ z. rvrun z begin) (sym is) ∙ (runs_keep k (i - k) begin).1 status v e in
      absurd (let both = sym stays ∙ f in cc))
      (cases_lt i k)

  -- from a world that the run has reached after k instructions
  module _ (k : ℕ) (list : List ℕ) (r : ℕ → ℕ) (at : ℕ) (b : ℕ → ℕ) (i0 : List ℕ) (h0 : List Event) (comes : rvrun k begin ≡ Running (world P list at b i0 h0)) (shows : Registers list r) (small : at < 2 ^ 32) where
    text : (a : ℕ) → (program_space parts).can_execute a ≡ true → b a ≡ (program_space parts).byte a
    text a may =
        let keeps : kept.Permits (program_space parts) (world P list at b i0 h0).machine.space = subst (λ x. kept.Permits (program_space parts) (world_of x).machine.space) comes (run_permits k begin) in
        keeps.bytes a (following.text_apart p parts q a may)

    module _ (low : ℕ) (hi : stack_start parts.stack ≤ low) (lt : low ≤ stack_end) where
      abbrev F1 : Fixed
      F1 = following.F1 p parts q low b hi lt text

      abbrev G1 : Ground
      G1 = following.G1 p parts q low b hi lt text

      ready1 : Ready G1
      ready1 = following.ready p parts q low b hi lt text

      abbrev light : ℕ → Light
      light n = light_run F1 n (Go r at b i0 h0)

      abbrev FineUpTo : ℕ → Type 0
      FineUpTo j = (n : ℕ) → n < j → IsFine F1 low (light n)

      covers_light : (j : ℕ) → NotFell (light j) → FineUpTo j → Covered k → Covered (k + j)
      covers_light j n fine c = covers k j (world P list at b i0 h0) c comes (λ i u li e. on_the_way p parts q low b hi lt text list r at i0 h0 shows small j i u n fine li e)

      covers_to_end : (j status : ℕ) (h : List Event) → light j ≡ Done status h → FineUpTo j → Covered k → (n : ℕ) → Covered n
      covers_to_end j status h e fine c =
          let over = is_over p parts q low b hi lt text list r at i0 h0 shows small j status h e in
          let n : NotFell (light j) = subst NotFell (sym e) tt in
          covers_all (k + j) status over.0 (covers_light j n fine c) (rvrun_on k j (k + j) begin (world P list at b i0 h0) comes refl ∙ over.1)

      -- the frames are the same with the whole stack
      frame_back : (f : Function) (cells : flat.Values) (area : flat.Bytes) (c : ℕ → ℕ) (a : ℕ) (s : ℕ → ℕ) → FrameHolds G1 f cells area c a s → FrameHolds G0 f cells area c a s
      frame_back f cells area c a s h = record { aligned = h.aligned; small = h.small; cells = h.cells; area = h.area }

      waits_back : (ws : List Frame) (c s : ℕ → ℕ) (base to : ℕ) → Waits G1 ws c s base to → Waits G0 ws c s base to
      waits_back [] c s base to st = st
      waits_back (w ∷ ws) c s base to st =
          let f = function_at p w.function in (
            record { at_is = st.0.at_is; aligned = st.0.aligned; small = st.0.small; calls = st.0.calls; seen = st.0.seen },
            frame_back f w.cells w.area c base s st.1,
            waits_back ws c (file_below f c base s) (base + frame_bytes f) (word_at c (base + return_home f)) st.2,
          )

      matched_back : (s : State) (r2 : ℕ → ℕ) (a : ℕ) (c : ℕ → ℕ) → Matched G1 s r2 a c → Matched G0 s r2 a c
      matched_back s r2 a c m =
          let f = function_at p s.frame.function in
          record {
            sp = m.sp;
            at_is = m.at_is;
            sp_is = m.sp_is;
            gp_is = m.gp_is;
            low = omega (arith, m.low, hi);
            bytes = m.bytes;
            frame = frame_back f s.frame.cells s.frame.area c m.sp (file_of r2) m.frame;
            temporaries = m.temporaries;
            arguments = m.arguments;
            statics = m.statics;
            waits = waits_back s.waiting c (file_below f c m.sp (file_of r2)) (m.sp + frame_bytes f) (return_at f c m.sp (r2 1)) m.waits;
          }

      goes_at : (t : State) (m : Light) → Matches G1 (running t) m → GoesAt (stack_end - bytes_of p (t.frame ∷ t.waiting)) m
      goes_at t (Go r2 at2 b2 i2 h2) z = let sum = sum_is G1 ready1 t r2 at2 b2 z.0 in z.0.sp_is ∙ omega (arith, sum)
      goes_at t (Done s h2) z = absurd z
      goes_at t (Fell h2) z = absurd z

      goes_on_so : (t : State) (m : Light) → Matches G1 (running t) m → NotFell m
      goes_on_so t (Go r2 at2 b2 i2 h2) z = tt
      goes_on_so t (Done s h2) z = absurd z
      goes_on_so t (Fell h2) z = absurd z

      -- it is there with the whole stack, too
      stands_then : (j : ℕ) (t : State) → AreBytes t.input → (m : Light) → light j ≡ m → Matches G1 (running t) m → StandsAt P G0 t (rvrun (k + j) begin)
      stands_then j t bytes (Go r2 at2 b2 i2 h2) e z =
          let here = address G0 t.frame.function t.frame.at in
          let tight = following.tight p parts q low b hi lt text in
          let f = subst (λ m. Follows tight m (rvrun j (world tight list at b i0 h0))) e (follows p parts q low b hi lt text list r at i0 h0 shows small j) in
          let n : NotFell (light j) = subst NotFell (sym e) tt in
          let m0 : Matched G0 t r2 here b2 = subst (λ x. Matched G0 t r2 x b2) z.0.at_is (matched_back t r2 at2 b2 z.0) in
          let sum = sum_is G0 ready0 t r2 here b2 m0 in
          let there : rvrun (k + j) begin ≡ Running (world P f.list at2 b2 i2 h2) =
          rvrun_on k j (k + j) begin (world P list at b i0 h0) comes refl ∙ (loosely p parts q low b hi lt text list r at i0 h0 shows small j n ∙ ap (loose_progress (program_space parts)) f.is) in
          record {
            list = f.list;
            r = r2;
            b = b2;
            is = there ∙ ap (λ x. Running (world P f.list x b2 i2 h2)) z.0.at_is ∙ ap (λ x. Running (world P f.list here b2 x h2)) z.1 ∙ ap (λ x. Running (world P f.list here b2 t.input x)) z.2;
            shows = f.shows;
            small = subst (λ x. x < 2 ^ 32) z.0.at_is f.small;
            matched = m0;
            sum = omega (arith, sum);
            stands = stands_with P G0 t f.list r2 here b2 t.input t.trace ready0 refl m0 refl refl f.shows;
            input = bytes;
          }
      stands_then j t bytes (Done s h2) e z = absurd z
      stands_then j t bytes (Fell h2) e z = absurd z

  -- ---- one step of flat code

  -- if it goes on
  record GoesFurther (k : ℕ) (s t : State) : Type 0 where
    pub j : ℕ
    pub some : least_if (function_at p s.frame.function) s.frame.at (next_of p s) ≤ j
    pub stands : StandsAt P G0 t (rvrun (k + j) begin)
    pub callers : AreBehindCalls p t.waiting
    pub covered : Covered k → Covered (k + j)

  module _ (k : ℕ) (s : State) (a : StandsAt P G0 s (rvrun k begin)) (callers : AreBehindCalls p s.waiting) where
    abbrev here : ℕ
    here = address G0 s.frame.function s.frame.at

    abbrev fn : Function
    fn = function_at p s.frame.function

    own_text : (x : ℕ) → (program_space parts).can_execute x ≡ true → a.b x ≡ (program_space parts).byte x
    own_text = text k a.list a.r here a.b s.input s.trace a.is a.shows a.small

    module _ (low : ℕ) (hi : stack_start parts.stack ≤ low) (lt : low ≤ stack_end) where
      abbrev F2 : Fixed
      F2 = following.F1 p parts q low a.b hi lt own_text

      abbrev G2 : Ground
      G2 = following.G1 p parts q low a.b hi lt own_text

      ready2 : Ready G2
      ready2 = following.ready p parts q low a.b hi lt own_text

      abbrev own_light : ℕ → Light
      own_light n = light_run F2 n (Go a.r here a.b s.input s.trace)

      abbrev AllFine : ℕ → Type 0
      AllFine j = (n : ℕ) → n < j → IsFine F2 low (own_light n)

      at_most : (x : Instruction) (j : ℕ) → next_of p s ≡ Some x → j ≤ most_next p s → j ≤ step_cost p fn (shortened fn.code s.frame.at x)
      at_most x j e le = subst (λ o. j ≤ most_if p fn s.frame.at o) e le

      level_fine : (x : Instruction) (j : ℕ) → IsLevel x → next_of p s ≡ Some x → j ≤ most_next p s → a.r 2 ≤ low → AllFine j
      level_fine x j l e le sp =
          let y = shortened fn.code s.frame.at x in
          let ly = level_shortened fn.code s.frame.at x l in
          let cost = level_cost p fn y ly in
          level F2 G2.env G2.data_at a.r here a.b s.input s.trace fn (first_of p s.frame.function) y low j (address G2 s.frame.function (s.frame.at + 1)) ly sp (ready2.stands s.frame.function s.frame.at x e) (omega (arith, at_most x j e le, cost))

      return_fine : (j : ℕ) → next_of p s ≡ Some instruction.Return → j ≤ most_next p s → a.r 2 ≤ low → AllFine j
      return_fine j e le sp =
          returns_fine F2 G2.env G2.data_at a.r here a.b s.input s.trace fn low j (address G2 s.frame.function (s.frame.at + 1)) sp (ready2.stands s.frame.function s.frame.at instruction.Return e) (at_most instruction.Return j e le)

      call_fine : (g j : ℕ) → next_of p s ≡ Some (instruction.Call g) → j ≤ most_next p s → GoesAt low (own_light j) → AllFine j
      call_fine g j e le goes =
          let called = ready2.calls s.frame.function s.frame.at g e in
          let known = (function_fits p q.sound s.frame.function).each s.frame.at (instruction.Call g) e in
          calls_fine F2 G2.env G2.data_at a.r here a.b s.input s.trace (calls_are_near p) (function_at p g) (G2.env g) (address G2 s.frame.function (s.frame.at + 1)) low j (address G2 g 0) called (ready2.entry_aligned g known) (ready2.entries g known) (at_most (instruction.Call g) j e le) goes

    called : (g : ℕ) → next_of p s ≡ Some (instruction.Call g) → step p s ≡ running (entered s g)
    called g e = step_is p s ∙ ap (λ o. o >>= act p s) e

    none_stuck : next_of p s ≡ None → step p s ≡ stuck
    none_stuck e = step_is p s ∙ ap (λ o. o >>= act p s) e

    sp_is : a.r 2 ≡ a.matched.sp
    sp_is = a.matched.sp_is

    further : (t : State) → step p s ≡ running t → bytes_of p (t.frame ∷ t.waiting) ≤ parts.stack → GoesFurther k s t
    further t e taken =
        let m = a.matched in
        let sum = a.sum in
        let then_sp = stack_end - bytes_of p (t.frame ∷ t.waiting) in
        let low = lower m.sp then_sp in
        let left = lower_left m.sp then_sp in
        let right = lower_right m.sp then_sp in
        let hi : stack_start parts.stack ≤ low = lower_both m.sp then_sp (stack_start parts.stack) m.low (omega (arith, taken)) in
        let lt : low ≤ stack_end = omega (arith, left, sum) in
        let fits_then : low + bytes_of p (t.frame ∷ t.waiting) ≤ stack_end = omega (arith, right, taken, q.stack.2) in
        let c = step_follows (G2 low hi lt) s a.r a.b (ready2 low hi lt) (following.matched_same p parts q low a.b hi lt own_text s a.r here a.b m left)
        (unwatched (G2 low hi lt) (omega arith) (omega arith) (running s)) a.input (subst (HasRoom (G2 low hi lt)) (sym e) fits_then) in
        let good : Matches (G2 low hi lt) (running t) (own_light low hi lt c.j) = subst (λ x. Matches (G2 low hi lt) x (own_light low hi lt c.j)) e c.good in
        let goes : GoesAt then_sp (own_light low hi lt c.j) = goes_at k a.list a.r here a.b s.input s.trace a.is a.shows a.small low hi lt t (own_light low hi lt c.j) good in
        let not_lower : ((f : ℕ) → next_of p s ≡ Some (instruction.Call f) → ⊥) → a.r 2 ≤ low =
        λ level_step.
        let w = subst (Within p (bytes_of p (s.frame ∷ s.waiting)) s.trace) e (step_level p q.sound s callers level_step) in
        let up : m.sp ≤ then_sp = omega (arith, w.1, sum) in
        let below = lower_both m.sp then_sp m.sp (omega arith) up in
        omega (arith, below, sp_is) in
        let fine : AllFine low hi lt c.j = fine_at t low hi lt c.j (next_of p s) refl e not_lower
        (λ g eg.
        let same = sym (called g eg) ∙ e in
        let is : entered s g ≡ t = cc in
        let more : bytes_of p (s.frame ∷ s.waiting) ≤ bytes_of p (t.frame ∷ t.waiting) = subst (λ x. bytes_of p (s.frame ∷ s.waiting) ≤ bytes_of p (x.frame ∷ x.waiting)) is (omega arith) in
        let down : then_sp ≤ m.sp = omega (arith, more, sum) in
        let least = lower_both m.sp then_sp then_sp down (omega arith) in
        let low_is : then_sp ≡ low = omega (arith, least, right) in
        subst (λ z. GoesAt z (own_light low hi lt c.j)) low_is goes)
        c.within in
        let inner = subst (Within p (bytes_of p (s.frame ∷ s.waiting) + 2 ^ 24) s.trace) e (step_within p q.sound s callers) in
        let bytes : AreBytes t.input = input_stays_bytes p s t e a.input in
        record {
          j = c.j;
          some = c.some;
          stands = stands_then k a.list a.r here a.b s.input s.trace a.is a.shows a.small low hi lt c.j t bytes (own_light low hi lt c.j) refl good;
          callers = inner.0;
          covered = covers_light k a.list a.r here a.b s.input s.trace a.is a.shows a.small low hi lt c.j (goes_on_so k a.list a.r here a.b s.input s.trace a.is a.shows a.small low hi lt t (own_light low hi lt c.j) good) fine;
        }
      where
        fine_at : (t : State) (low : ℕ) (hi : stack_start parts.stack ≤ low) (lt : low ≤ stack_end) (j : ℕ) (o : Option Instruction) → next_of p s ≡ o → step p s ≡ running t
            → (((f : ℕ) → next_of p s ≡ Some (instruction.Call f) → ⊥) → a.r 2 ≤ low) → ((g : ℕ) → next_of p s ≡ Some (instruction.Call g) → GoesAt low (own_light low hi lt j)) → j ≤ most_next p s → AllFine low hi lt j
        fine_at t low hi lt j None eo e no_call call le = absurd (let both = sym (none_stuck eo) ∙ e in cc)
        fine_at t low hi lt j (Some x) eo e no_call call le =
            level_or_not (λ y. next_of p s ≡ Some y → AllFine low hi lt j)
            (λ y l ey. level_fine low hi lt y j l ey le (no_call (λ f ef. let both = sym ey ∙ ef in let same : y ≡ instruction.Call f = cc in is_call y f l same)))
            (λ g eg. call_fine low hi lt g j eg le (call g eg))
            (λ er. return_fine low hi lt j er le (no_call (λ f ef. let both = sym er ∙ ef in cc)))
            x eo

    -- if it ends: the code after main's call ends the run
    over : (status : ℕ) (left : List ℕ) (trace : List Event) → step p s ≡ ended status left trace → Covered k → (n : ℕ) → Covered n
    over status left trace e c =
        let m = a.matched in
        let sum = a.sum in
        let low = m.sp in
        let hi : stack_start parts.stack ≤ low = m.low in
        let lt : low ≤ stack_end = omega (arith, sum) in
        let d = step_follows (G2 low hi lt) s a.r a.b (ready2 low hi lt) (following.matched_same p parts q low a.b hi lt own_text s a.r here a.b m (omega arith))
        (unwatched (G2 low hi lt) (omega arith) (omega arith) (running s)) a.input (subst (HasRoom (G2 low hi lt)) (sym e) tt) in
        let good : Matches (G2 low hi lt) (ended status left trace) (own_light low hi lt d.j) = subst (λ x. Matches (G2 low hi lt) x (own_light low hi lt d.j)) e d.good in
        let fine : AllFine low hi lt d.j = fine_at low hi lt d.j (next_of p s) refl (omega (arith, sp_is)) d.within in
        ends_so low hi lt d.j (own_light low hi lt d.j) refl good fine
      where
        fine_at : (low : ℕ) (hi : stack_start parts.stack ≤ low) (lt : low ≤ stack_end) (j : ℕ) (o : Option Instruction) → next_of p s ≡ o → a.r 2 ≤ low → j ≤ most_next p s → AllFine low hi lt j
        fine_at low hi lt j None eo sp le = absurd (let both = sym (none_stuck eo) ∙ e in cc)
        fine_at low hi lt j (Some x) eo sp le =
            level_or_not (λ y. next_of p s ≡ Some y → AllFine low hi lt j)
            (λ y l ey. level_fine low hi lt y j l ey le sp)
            (λ g eg. absurd (let both = sym (called g eg) ∙ e in cc))
            (λ er. return_fine low hi lt j er le sp)
            x eo

        ends_so : (low : ℕ) (hi : stack_start parts.stack ≤ low) (lt : low ≤ stack_end) (j : ℕ) (x : Light) → own_light low hi lt j ≡ x → Matches (G2 low hi lt) (ended status left trace) x → AllFine low hi lt j → (n : ℕ) → Covered n
        ends_so low hi lt j (Done z h) ex q2 fine = covers_to_end k a.list a.r here a.b s.input s.trace a.is a.shows a.small low hi lt j z h ex fine c
        ends_so low hi lt j (Fell h) ex q2 fine = absurd q2
        ends_so low hi lt j (Go r2 at2 b2 i2 h2) ex q2 fine =
            let F = F2 low hi lt in
            let l = following.laid p parts q low a.b hi lt own_text in
            let st = l.stands in
            let ra = st.2.2.0 in
            let ra_is : ra ≡ text_start + 24 = omega (arith, st.1.next_is, st.2.1.next_is, st.2.2.1.next_is) in
            let tail = stands_parts F.text q.assembled.env (whole.data_at p parts q) exit (shorten_calls (calls_are_near p) (functions_items 0 (length p.functions) p.functions)) ra (whole.past_text p parts q) st.2.2.2 in
            let there : ra ≡ at2 = ra_is ∙ sym q2.0.at_is in
            let ending : Stands F.text q.assembled.env (whole.data_at p parts q) exit at2 tail.0 = subst (λ x. Stands F.text q.assembled.env (whole.data_at p parts q) exit x tail.0) there tail.1 in
            let done = exits_done F q.assembled.env (whole.data_at p parts q) tail.0 r2 at2 b2 i2 h2 ending in
            let last : own_light low hi lt (j + 2) ≡ Done done.0 h2 = run_plus F j 2 (Go a.r here a.b s.input s.trace) ∙ (ap (light_run F 2) ex ∙ done.1) in
            covers_to_end k a.list a.r here a.b s.input s.trace a.is a.shows a.small low hi lt (j + 2) done.0 h2 last
            (λ n ln.
            ⊎_elim
            (λ few. fine n few)
            (λ ge.
            let y = n - j in
            let is : j + y ≡ n = omega (arith, ge) in
            let now = exits_fine F q.assembled.env (whole.data_at p parts q) low tail.0 y r2 at2 b2 i2 h2 ending (omega (arith, is, ln)) in
            subst (λ z. IsFine F low (own_light low hi lt z)) is (subst (IsFine F low) (sym (run_plus F j y (Go a.r here a.b s.input s.trace))) (subst (λ z. IsFine F low (light_run F y z)) (sym ex) now)))
            (cases_lt n j))
            c

  -- ---- from the entry

  record Starts : Type 0 where
    pub k : ℕ
    pub some : 1 ≤ k
    pub stands : StandsAt P G0 (start p input) (rvrun k begin)
    pub covered : Covered k

  starting : AreBytes input → bytes_of p ((start p input).frame ∷ []) ≤ parts.stack → Starts
  starting bytes taken =
      let low = stack_end - bytes_of p ((start p input).frame ∷ []) in
      let hi : stack_start parts.stack ≤ low = omega (arith, taken) in
      let lt : low ≤ stack_end = omega arith in
      let list : List ℕ = replicate 32 0 in
      let r : ℕ → ℕ = λ n. 0 in
      let b : ℕ → ℕ = (program_space parts).byte in
      let shows = whole.zero_registers p parts q in
      let small : text_start < 2 ^ 32 = omega arith in
      let F : Fixed = F1 0 list r text_start b input [] refl shows small low hi lt in
      let G : Ground = G1 0 list r text_start b input [] refl shows small low hi lt in
      let own : (a : ℕ) → (program_space parts).can_execute a ≡ true → b a ≡ (program_space parts).byte a = text 0 list r text_start b input [] refl shows small in
      let l = following.laid p parts q low b hi lt own in
      let ready = ready1 0 list r text_start b input [] refl shows small low hi lt in
      let room : low + bytes_of p ((start p input).frame ∷ []) ≤ stack_end = omega (arith, taken, q.stack.2) in
      let c = begins p F q.assembled.env low (whole.data_at p parts q) text_start (whole.past_text p parts q) r b input l room in
      let goes = goes_at 0 list r text_start b input [] refl shows small low hi lt (start p input) (light 0 list r text_start b input [] refl shows small low hi lt c.j) c.good in
      let main = q.sound.has_main in
      let fine = starts_fine F q.assembled.env (whole.data_at p parts q) r text_start b input [] (function_at p p.main) stack_end l.stands.0 (whole.data_at p parts q + gp_offset) l.stands.2.0 (q.assembled.env p.main) l.stands.2.2.0 low c.j (address G p.main 0)
      l.stands.1 l.stands.2.1 l.stands.2.2.1 (ready.entry_aligned p.main main) (ready.entries p.main main) c.within goes in
      let not_fell = goes_on_so 0 list r text_start b input [] refl shows small low hi lt (start p input) (light 0 list r text_start b input [] refl shows small low hi lt c.j) c.good in
      record {
        k = 0 + c.j;
        some = omega (arith, c.some);
        stands = stands_then 0 list r text_start b input [] refl shows small low hi lt c.j (start p input) bytes (light 0 list r text_start b input [] refl shows small low hi lt c.j) refl c.good;
        covered = covers_light 0 list r text_start b input [] refl shows small low hi lt c.j not_fell fine (λ i u li e. absurd (omega (arith, li)));
      }

  -- ---- any number of steps of flat code

  abbrev After : (k least : ℕ) → Progress → Type 0
  After k least (running t) = (n : ℕ) × (k + least ≤ n) × Covered n
  After k least (ended status left trace) = (n : ℕ) → Covered n
  After k least stuck = Unit {0}

  after_less : (k l least more : ℕ) (x : Progress) → k + least ≤ l + more → After l more x → After k least x
  after_less k l least more (running t) le a = (a.0, omega (arith, le, a.1), a.2)
  after_less k l least more (ended status left trace) le a = a
  after_less k l least more stuck le a = tt

  abbrev Walks : ℕ → Type 0
  Walks n = (s : State) (k : ℕ) → StandsAt P G0 s (rvrun k begin) → AreBehindCalls p s.waiting → Covered k → ((m : ℕ) → FitStack parts.stack p (run p m s)) → After k (least_spent p n s) (run p n s)

  on_step : (n : ℕ) → Walks n → (s : State) (k : ℕ) → StandsAt P G0 s (rvrun k begin) → AreBehindCalls p s.waiting → Covered k → ((m : ℕ) → FitStack parts.stack p (run p m s))
      → (x : Progress) → step p s ≡ x → After k (least_if (function_at p s.frame.function) s.frame.at (next_of p s) + cost_on x (least_spent p n)) (flat.goes_on x (run p n))
  on_step n more s k a callers c fits (running t) e =
      let each : (m : ℕ) → FitStack parts.stack p (run p m t) = λ m. subst (FitStack parts.stack p) (ap (λ y. flat.goes_on y (run p m)) e) (fits (suc m)) in
      let f = further k s a callers t e (each 0) in
      let rest = more t (k + f.j) f.stands f.callers (f.covered c) each in
      after_less k (k + f.j) (least_if (function_at p s.frame.function) s.frame.at (next_of p s) + least_spent p n t) (least_spent p n t) (run p n t) (omega (arith, f.some)) rest
  on_step n more s k a callers c fits (ended status left trace) e = over k s a callers status left trace e c
  on_step n more s k a callers c fits stuck e = tt

  walk : (n : ℕ) → Walks n
  walk zero s k a callers c fits = (k, omega arith, c)
  walk (suc n) s k a callers c fits =
      let all = on_step n (walk n) s k a callers c fits (step p s) refl in all

  pub all_above : AreBytes input → ((n : ℕ) → FitStack parts.stack p (run p n (start p input))) → ((n : ℕ) → run p n (start p input) ≡ stuck → ⊥) → (k : ℕ) (w : World) → rvrun k begin ≡ Running w → IsAbove p parts q w
  all_above bytes fits never_stuck k w e =
      let z = starting bytes (fits 0) in
      let n = slack p * k in
      let a = walk n (start p input) z.k z.stands tt z.covered fits in
      covered_at (run p n (start p input)) refl a
    where
      covered_at : (x : Progress) → run p (slack p * k) (start p input) ≡ x → After (starting bytes (fits 0)).k (least_spent p (slack p * k) (start p input)) x → IsAbove p parts q w
      covered_at (running t) g a =
          let least = least_spent p (slack p * k) (start p input) in
          let past : k < least + 1 = lt_of_mul-lt-mul_left (slack p) {m = k} {n = least + 1} (progresses p (slack p * k) (start p input) t g) in
          let some = (starting bytes (fits 0)).some in
          a.2 k w (omega (arith, a.1, past, some)) e
      covered_at (ended status left trace) g a = a (k + 1) k w (omega arith) e
      covered_at stuck g a = absurd (never_stuck (slack p * k) g)
