-- The calling convention at each call of a flat program's run, and of main.
use Rattle.std.proofs.Common.{◌≡◌, ℕ, zero, suc, ◌+◌, ◌*◌, ◌-◌, ◌%◌, ◌^◌, ◌<◌, List, ◌∷◌, [], map, Some, None, true, false, refl, sym, ap, ◌∙◌, subst, arith}
use Rattle.std.specs.Prelude.{nat_lt, slice_get}
use Rattle.std.proofs.lemmas.Bool.{ltb-true, le-ltb}
use Rattle.memory_map.specs.MemoryMap.{stack_end}
use Rattle.rv32.specs.Space.{word_at}
use Rattle.rv32.specs.Step.{register}
use Rattle.sim.specs.Runs as machine
use Rattle.frames_code.specs.declared.code.Instruction.TheVariants as instruction
use Rattle.frames_code.specs.Code.{Program, frame_bytes}
use Rattle.frames_code.specs.Costs.{next_of}
use Rattle.frames_code.specs.Run.{Value, word, reference, Frame, State, Progress, running, ended, stuck, unset, entered, function_at, bytes_of, act, step, run, goes_on, start, ◌>>=◌}
use Rattle.select_exec.specs.Light.{Fixed, Light, Go, Done, Fell, with_reg, light_run, Comes}
use Rattle.select_exec.specs.Whole.{Permits, fixed}
use Rattle.select_exec.specs.Worlds.{Registers, world, Follows}
use Rattle.select_exec.proofs.Bridge.{bool_cases}
use Rattle.select_exec.proofs.Words.{with_same, with_other}
use Rattle.select_exec.proofs.Steps.{comes_now, comes_then, run_plus}
use Rattle.select_exec.proofs.ItemSteps.{on_loads, on_call}
use Rattle.select_exec.proofs.Worlds.{real_follows}
use Rattle.select_exec.proofs.Placing.{after_items}
use Rattle.select.specs.Selected.{kept, gp_offset}
use Rattle.select.specs.Program.{program_items}
use Rattle.select_correct.specs.Matches.{gp_of, Ground, Ready, Waits, Matched, Matches, HasRoom, address, shown, file_of, file_below, return_at}
use Rattle.select_correct.specs.Laws.{Anything, AreBytes}
use Rattle.select_correct.specs.Costs.{opening_cost, row, most_spent}
use Rattle.select_correct.specs.Runs.{Laid, Entered, IsWithin, IsBack, ground_at}
use Rattle.select_correct.specs.Convention.{passed, IsInside, IsInCallee, AtReturn, KeepsConvention, ComesToCall, behind_call, CallsKeepConvention, MainKeepsConvention, HasRoomFor}
use Rattle.select_correct.proofs.Registers.{kept_above}
use Rattle.select_correct.proofs.Fits.{frame_room}
use Rattle.select_correct.proofs.Frames.{sum_is}
use Rattle.select_correct.proofs.Calls.{calls_to, opens, leaves}
use Rattle.select_correct.proofs.Inputs.{step_is, Kept, run_keeps}
use Rattle.select_correct.proofs.Steps.{BytesLeft, bytes_last, steps as matched_steps}
use Rattle.select_correct.proofs.Laying.{is_ready}
use Rattle.select_correct.proofs.Standing.{register_shown, in_register, on_stack}
use Rattle.select_correct.proofs.Real.{shown as standing}
use Rattle.select_correct.proofs.Keeping.{kept_low}
use Rattle.select_correct.proofs.Watching.{each_entry_keeps}
use Rattle.select_correct.proofs.Whole.{start_keeps, unwatched, entries, comes_to}

-- ---- runs in parts

split_at : (p : Program) (n k : ℕ) → ((t : State) → run p (n + k) t ≡ goes_on (run p n t) (run p k)) → (x : Progress) → goes_on x (run p (n + k)) ≡ goes_on (goes_on x (run p n)) (run p k)
split_at p n k more (running t) = more t
split_at p n k more (ended status input trace) = refl
split_at p n k more stuck = refl

run_split : (p : Program) (n k : ℕ) (s : State) → run p (n + k) s ≡ goes_on (run p n s) (run p k)
run_split p zero k s = let e : 0 + k ≡ k = omega arith in ap (λ n. run p n s) e
run_split p (suc n) k s =
    let e : suc n + k ≡ suc (n + k) = omega arith in
    ap (λ j. run p j s) e ∙ split_at p n k (run_split p n k) (step p s)

called : (p : Program) (s : State) (f : ℕ) → next_of p s ≡ Some (instruction.Call f) → step p s ≡ running (entered s f)
called p s f e = step_is p s ∙ ap (λ o. o >>= act p s) e

-- the run after a call is the run of the function that it enters
behind_entry : (p : Program) (input : List ℕ) (n f : ℕ) (s : State) → ComesToCall p input n f s → (k : ℕ) → run p (suc n + k) (start p input) ≡ run p k (entered s f)
behind_entry p input n f s c k =
    let e : suc n + k ≡ n + suc k = omega arith in
    ap (λ j. run p j (start p input)) e
    ∙ (run_split p n (suc k) (start p input) ∙ (ap (λ x. goes_on x (run p (suc k))) c.runs ∙ ap (λ x. goes_on x (run p k)) (called p s f c.next)))

-- ---- calls that are the same

abbrev first : List ℕ → ℕ
first [] = 0
first (x ∷ xs) = x

abbrev others : List ℕ → List ℕ
others [] = []
others (x ∷ xs) = xs

bytes_alike : (p : Program) (ws vs : List Frame) → map (λ w. w.function) ws ≡ map (λ w. w.function) vs → bytes_of p ws ≡ bytes_of p vs
bytes_alike p [] [] e = refl
bytes_alike p [] (v ∷ vs) e = absurd (let z : ⊥ = cc in z)
bytes_alike p (w ∷ ws) [] e = absurd (let z : ⊥ = cc in z)
bytes_alike p (w ∷ ws) (v ∷ vs) e =
    let one : frame_bytes (function_at p w.function) ≡ frame_bytes (function_at p v.function) = ap (λ f. frame_bytes (function_at p f)) (ap first e) in
    omega (arith, one, bytes_alike p ws vs (ap others e))

own_bytes : (p : Program) (c : State) (m : ℕ) (t : State) → IsInCallee p c m t → bytes_of p t.waiting ≡ bytes_of p c.waiting
own_bytes p c m t inner = bytes_alike p t.waiting c.waiting (ap others inner.own)

own_frame : (p : Program) (c : State) (m : ℕ) (t : State) → IsInCallee p c m t → frame_bytes (function_at p t.frame.function) ≡ frame_bytes (function_at p c.frame.function)
own_frame p c m t inner = ap (λ f. frame_bytes (function_at p f)) (ap first inner.own)

is_within : (p : Program) (s : State) (f : ℕ) (x : Progress) → IsInside p (entered s f) x → IsWithin p s x
is_within p s f (running t) lt = lt
is_within p s f (ended status input trace) lt = tt
is_within p s f stuck lt = tt

-- ---- the outermost call is returned from

module _ (G : Ground) (s : State) (r b : ℕ → ℕ) (ready : Ready G) (m : Matched G s r (address G s.frame.function s.frame.at) b) where
  abbrev base : ℕ
  base = m.sp + frame_bytes (function_at G.program s.frame.function)

  abbrev back_to : ℕ
  back_to = return_at (function_at G.program s.frame.function) b m.sp (r 1)

  abbrev below : ℕ → ℕ
  below = file_below (function_at G.program s.frame.function) b m.sp (file_of r)

  comes_out : (r0 : ℕ → ℕ) → r0 2 ≡ G.sp → ((j : ℕ) → file_of r0 j ≡ G.file j) → (ws : List Frame) → Waits G ws b below base back_to → bytes_of G.program ws ≡ 0 → next_of G.program s ≡ Some instruction.Return
      → Comes G.machine Anything 1 (row (function_at G.program s.frame.function) instruction.Return) (Go r (address G s.frame.function s.frame.at) b s.input s.trace) (IsBack G r0 s G.ra)
  comes_out r0 e2 ef [] st none e =
      leaves G s r b ready m (IsBack G r0 s G.ra) e (omega (arith, st.3, ready.return_aligned)) (omega (arith, st.3, ready.return_small)) (λ r2 es es12 e10 e3.
      comes_now G.machine Anything 0 _ (IsBack G r0 s G.ra) tt (st.3, es ∙ (st.0 ∙ sym e2), λ j. es12 j ∙ (st.2 j ∙ sym (ef j)), λ v h. e10 ∙ (m.temporaries 0 v h).2, refl, refl))
  comes_out r0 e2 ef (w ∷ ws) st none e = absurd (omega (arith, none, frame_room (function_at G.program w.function)))

module _ (G : Ground) (ready : Ready G) where
  returns_out : (r0 : ℕ → ℕ) → r0 2 ≡ G.sp → ((j : ℕ) → file_of r0 j ≡ G.file j) → (t : State) → bytes_of G.program t.waiting ≡ 0 → next_of G.program t ≡ Some instruction.Return → (m : Light) → Matches G (running t) m
      → Comes G.machine Anything 1 (row (function_at G.program t.frame.function) instruction.Return) m (IsBack G r0 t G.ra)
  returns_out r0 e2 ef t none e (Go r at b i h) q =
      let R : Light → Type 0 = λ x. Comes G.machine Anything 1 (row (function_at G.program t.frame.function) instruction.Return) x (IsBack G r0 t G.ra) in
      let m = subst (λ x. Matched G t r x b) q.0.at_is q.0 in
      let there = address G t.frame.function t.frame.at in
      let c : R (Go r there b t.input t.trace) = comes_out G t r b ready m r0 e2 ef t.waiting m.waits none e in
      subst (λ x. R (Go r x b i h)) (sym q.0.at_is) (subst (λ x. R (Go r there b x h)) (sym q.1) (subst (λ x. R (Go r there b t.input x)) (sym q.2) c))
  returns_out r0 e2 ef t none e (Done x h) q = absurd q
  returns_out r0 e2 ef t none e (Fell h) q = absurd q

module _ (P : Permits) (low : (a : ℕ) → P.can_execute a ≡ true → a < 2 ^ 31) (apart : (a : ℕ) → P.can_execute a ≡ true → P.can_write a ≡ false) (p : Program) (env : ℕ → ℕ) (floor data_at base e : ℕ) (r b : ℕ → ℕ) (list input : List ℕ) (q : Laid p (fixed P b) env floor data_at base e r b) (shows : Registers list r) where
  abbrev F : Fixed
  F = fixed P b

  abbrev G : Ground
  G = ground_at p F env floor data_at base r b

  abbrev begin : Light
  begin = Go r base b input []

  abbrev real : ℕ → machine.Progress
  real k = machine.rvrun k (world P list base b input [])

  really : (k : ℕ) → Follows P (light_run F k begin) (real k)
  really k =
      let one = after_items F.text env data_at (program_items p) base e q.aligned q.stands in
      real_follows P low apart list r base b input [] shows (omega (arith, one.on, q.low)) k

  ready : Ready G
  ready = is_ready p F env floor data_at base e r b q

  passed_is : (x : Value) → shown G x ≡ passed data_at x
  passed_is (word w) = refl
  passed_is (reference zero o) = refl
  passed_is (reference (suc l) o) = refl

  -- the light machine enters function f, which is returned to at back, in state c, after k instructions
  record Begun (f back : ℕ) (c : State) : Type 0 where
    pub k : ℕ
    pub r1 : ℕ → ℕ
    pub b1 : ℕ → ℕ
    pub at : light_run F k begin ≡ Go r1 (env f) b1 c.input c.trace
    pub ra : r1 1 ≡ back
    pub sp : r1 2 + bytes_of p c.waiting ≡ stack_end
    pub aligned : r1 2 % 16 ≡ 0
    pub gp : r1 3 ≡ gp_of G
    pub registers : (j : ℕ) (x : Value) → c.temporaries j ≡ Some x → (j < 8) × (r1 (10 + j) ≡ shown G x)
    pub further : (j : ℕ) (x : Value) → c.arguments (8 + j) ≡ Some x → word_at b1 (r1 2 + 4 * j) ≡ shown G x
    pub most : ℕ
    pub opened : Comes F Anything 1 most (Go r1 (env f) b1 c.input c.trace) (Matches G (running c))
    pub returns : (m : ℕ) (t : State) → HasRoomFor G c m → IsInCallee p c m t → next_of p t ≡ Some instruction.Return → (j : ℕ) × IsBack G r1 t back (light_run F j (Go r1 (env f) b1 c.input c.trace))

  -- the world where the light machine is, after the return
  came_back : (r1 : ℕ → ℕ) (back : ℕ) (t : State) (v : machine.World) (m : Light) (y : machine.Progress) → register v.machine 1 ≡ back → register v.machine 2 ≡ r1 2 → ((j : ℕ) → j < 12 → register v.machine (kept j) ≡ r1 (kept j))
      → IsBack G r1 t back m → Follows P m y → (w : machine.World) × (y ≡ machine.Running w) × AtReturn data_at t v w
  came_back r1 back t v (Go r2 at2 b2 i2 h2) y e1 e2 ek d g =
      let w = world P g.list at2 b2 i2 h2 in
      let now : (k : ℕ) → 0 < k → k < 32 → register w.machine k ≡ r2 k = register_shown P g.list r2 at2 b2 i2 h2 g.shows in (
        w,
        g.is,
        record {
          pc = d.0 ∙ sym e1;
          sp = now 2 (omega arith) (omega arith) ∙ (d.1 ∙ sym e2);
          saved = λ j lt. now (kept j) (omega (arith, kept_above j)) (kept_low j lt) ∙ (d.2 j ∙ sym (ek j lt));
          result = λ x ex. now 10 (omega arith) (omega arith) ∙ (d.3 x ex ∙ passed_is x);
          trace = d.5;
          input = d.4;
        },
      )
  came_back r1 back t v (Done x h) y e1 e2 ek d g = absurd d
  came_back r1 back t v (Fell h) y e1 e2 ek d g = absurd d

  keeps : (f back : ℕ) (c : State) → Begun f back c → AreBytes c.input → KeepsConvention p env data_at real (env f) back c (HasRoomFor G c)
  keeps f back c g bytes =
      let here : Light = Go g.r1 (env f) g.b1 c.input c.trace in
      let now : Follows P here (real g.k) = subst (λ x. Follows P x (real g.k)) g.at (really g.k) in
      let v = world P now.list (env f) g.b1 c.input c.trace in
      let held : (k : ℕ) → 0 < k → k < 32 → register v.machine k ≡ g.r1 k = register_shown P now.list g.r1 (env f) g.b1 c.input c.trace now.shows in
      let ra : register v.machine 1 ≡ g.r1 1 = held 1 (omega arith) (omega arith) in
      let sp : register v.machine 2 ≡ g.r1 2 = held 2 (omega arith) (omega arith) in
      let later : (j : ℕ) → Follows P (light_run F j here) (real (g.k + j)) = λ j. subst (λ x. Follows P x (real (g.k + j))) (run_plus F g.k j begin ∙ ap (light_run F j) g.at) (really (g.k + j)) in
      record {
        k = g.k;
        v = v;
        runs = now.is;
        enters = record {
          pc = refl;
          ra = ra ∙ g.ra;
          aligned = ap (λ x. x % 16) sp ∙ g.aligned;
          gp = held 3 (omega arith) (omega arith) ∙ g.gp;
          registers = λ j x ex. let old = g.registers j x ex in (old.0, held (10 + j) (omega arith) (omega (arith, old.0)) ∙ (old.1 ∙ passed_is x));
          stack = λ j x ex. ap (λ a. word_at g.b1 (a + 4 * j)) sp ∙ (g.further j x ex ∙ passed_is x);
          trace = refl;
          input = refl;
        };
        has_frame = λ m t rooms inner.
            let d = comes_then F Anything g.most (most_spent p m c) here (Matches G (running c)) (Matches G (run p m c)) g.opened
            (λ m2 x. matched_steps G ready m c m2 x bytes rooms (λ j lt. unwatched G (omega arith) (omega arith) (run p j c))) in
            let z = standing P G t (light_run F d.j here) (real (g.k + d.j)) ready refl (subst (λ x. Matches G x (light_run F d.j here)) inner.runs d.good) (later d.j) in
            (d.j, z.world, z.is, z.stands, record { sp = omega (arith, z.stands.sp, g.sp, sp, own_bytes p c m t inner, own_frame p c m t inner); aligned = z.stands.aligned });
        leaves = λ m t rooms inner et.
            let d = g.returns m t rooms inner et in
            let w = came_back g.r1 back t v (light_run F d.0 here) (real (g.k + d.0)) (ra ∙ g.ra) sp (λ j lt. held (kept j) (omega (arith, kept_above j)) (kept_low j lt)) d.1 (later d.0) in
            (d.0, w.0, w.1, w.2);
      }

  -- ---- a call

  -- ra is none of the registers that are seen
  backed : (r1 : ℕ → ℕ) (end : ℕ) (t : State) (x : Light) → IsBack G r1 t end x → IsBack G (with_reg r1 1 end) t end x
  backed r1 end t (Go r3 at3 b3 i3 h3) d = (d.0, d.1 ∙ sym (with_other r1 1 end 2 (λ x. omega (arith, x))), λ j. d.2 j ∙ sym (with_other r1 1 end (kept j) (λ x. omega (arith, x, kept_above j))), d.3, d.4, d.5)
  backed r1 end t (Done x3 h3) d = absurd d
  backed r1 end t (Fell h3) d = absurd d

  begun_call : (k f : ℕ) (s : State) (m : Light) → light_run F k begin ≡ m → Matches G (running s) m → AreBytes s.input → next_of p s ≡ Some (instruction.Call f) → HasRoom G (running (entered s f))
      → Begun f (behind_call p env s) (entered s f)
  begun_call k f s (Go r1 at b1 i h) em w bytes es room =
      let here = address G s.frame.function s.frame.at in
      let end = address G s.frame.function (s.frame.at + 1) in
      let m1 = subst (λ x. Matched G s r1 x b1) w.0.at_is w.0 in
      let there : Go r1 at b1 i h ≡ Go r1 here b1 s.input s.trace = ap (λ x. Go r1 x b1 i h) w.0.at_is ∙ (ap (λ x. Go r1 here b1 x h) w.1 ∙ ap (Go r1 here b1 s.input) w.2) in
      let c = calls_to G s r1 b1 ready m1 f es in
      let r2 = with_reg r1 1 end in
      let stays : (j : ℕ) → 1 < j → r2 j ≡ r1 j = λ j lt. with_other r1 1 end j (λ x. omega (arith, x, lt)) in
      let sum = sum_is G ready s r1 here b1 m1 in
      let sp : r2 2 ≡ m1.sp = stays 2 (omega arith) ∙ m1.sp_is in
      let seen : m1.sp ≡ G.watch_sp → (end ≡ G.watch_ra) × ((j : ℕ) → file_of r1 j ≡ G.watch_file j) = λ x. absurd (omega (arith, x, sum)) in
      record {
        k = k + c.j;
        r1 = r2;
        b1 = b1;
        at = run_plus F k c.j begin ∙ (ap (light_run F c.j) (em ∙ there) ∙ c.good);
        ra = with_same r1 1 end (omega arith);
        sp = omega (arith, sp, sum);
        aligned = ap (λ x. x % 16) sp ∙ m1.frame.aligned;
        gp = stays 3 (omega arith) ∙ m1.gp_is;
        registers = λ j x ex. bool_cases (nat_lt j 8)
            (λ t.
            let before : s.temporaries j ≡ Some x = rw t at ex in
            let lt = ltb-true j 8 t in
            (lt, stays (10 + j) (omega arith) ∙ (sym (in_register r1 b1 m1.sp j lt) ∙ (m1.temporaries j x before).2)))
            (λ t. let no : None ≡ Some x = rw t at ex in cc);
        further = λ j x ex.
            let t : nat_lt (8 + j) 8 ≡ false = le-ltb (8 + j) 8 (omega arith) in
            let before : s.temporaries (8 + j) ≡ Some x = rw t at ex in
            let place : r2 2 + 4 * j ≡ m1.sp + 4 * (8 + j - 8) = omega (arith, sp) in
            ap (word_at b1) place ∙ (sym (on_stack r1 b1 m1.sp (8 + j) (omega arith)) ∙ (m1.temporaries (8 + j) x before).2);
        most = opening_cost (function_at p f);
        opened = opens G s r1 b1 ready m1 f seen es room;
        returns = λ m t rooms inner et.
            let d = each_entry_keeps G s t f m r1 b1 ready m1 bytes es inner.runs et (own_bytes p (entered s f) m t inner) rooms (λ j lj. is_within p s f (run p j (entered s f)) (inner.inside j lj)) in
            (d.j, backed r1 end t (light_run F d.j (Go r2 (env f) b1 s.input s.trace)) d.good);
      }
  begun_call k f s (Done status h) em w bytes es room = absurd w
  begun_call k f s (Fell h) em w bytes es room = absurd w

  -- ---- main

  begun_main : AreBytes input → HasRoom G (running (start p input)) → Begun p.main (base + 24) (start p input)
  begun_main bytes room =
      let st = q.stands in
      let one = st.1 in
      let points = st.2.1 in
      let call = st.2.2.1 in
      let ra = st.2.2.0 in
      let ra_is : ra ≡ base + 24 = omega (arith, one.next_is, points.next_is, call.next_is) in
      let r1 = with_reg r 2 stack_end in
      let r2 = with_reg r1 3 (data_at + gp_offset) in
      let r3 = with_reg r2 1 ra in
      let here = Go r3 (env p.main) b input [] in
      let file : (j : ℕ) → file_of r3 j ≡ file_of r j = start_keeps r (data_at + gp_offset) ra in
      let c : Comes F Anything 1 6 begin (λ x. x ≡ here) =
      on_loads F Anything (λ x. x ≡ here) 4 r base b input [] tt 2 stack_end st.0 refl one tt
      (on_loads F Anything (λ x. x ≡ here) 2 r1 st.0 b input [] tt 3 (data_at + gp_offset) st.2.0 refl points tt
      (on_call F Anything (λ x. x ≡ here) 0 r2 st.2.0 b input [] tt (env p.main) ra (ready.entry_aligned p.main ready.sound.has_main) call tt
      (comes_now F Anything 0 here (λ x. x ≡ here) tt refl))) in
      let main_entered : Entered G p.main unset unset (slice_get p.statics) r3 (env p.main) b = record {
        at_is = refl;
        sp_is = refl;
        gp_is = refl;
        aligned = refl;
        ra_is = ra_is;
        file_is = file;
        small = λ j. subst (λ x. x < 2 ^ 32) (sym (file j)) (q.small j);
        bytes_are = λ k le. refl;
        bytes = q.bytes;
        registers = λ k v ek. cc;
        further = λ k v ek. cc;
        globals = q.statics;
        unwatched = omega arith;
      } in
      let opened : Comes F Anything 1 (opening_cost (function_at p p.main)) here (Matches G (running (start p input))) =
      entries G p.main unset unset (slice_get p.statics) input [] r3 (env p.main) b ready ready.sound.has_main main_entered room in
      record {
        k = c.j;
        r1 = r3;
        b1 = b;
        at = c.good;
        ra = with_same r2 1 ra (omega arith) ∙ ra_is;
        sp = refl;
        aligned = refl;
        gp = refl;
        registers = λ j x ex. cc;
        further = λ j x ex. cc;
        most = opening_cost (function_at p p.main);
        opened = opened;
        returns = λ m t rooms inner et.
            let s = start p input in
            let d = comes_then F Anything (opening_cost (function_at p p.main)) (most_spent p m s) here (Matches G (running s)) (Matches G (run p m s)) opened
            (λ m2 x. matched_steps G ready m s m2 x bytes rooms (λ j lt. unwatched G (omega arith) (omega arith) (run p j s))) in
            let out = comes_then F Anything (opening_cost (function_at p p.main) + most_spent p m s) (row (function_at p t.frame.function) instruction.Return) here (Matches G (run p m s)) (IsBack G r3 t (base + 24)) d
            (λ m2 x. returns_out G ready r3 refl file t (own_bytes p (start p input) m t inner) et m2 (subst (λ y. Matches G y m2) inner.runs x)) in
            (out.j, out.good);
      }

pub calls_keep : CallsKeepConvention
calls_keep P low apart p env floor data_at base e r b list input q shows bytes n f s c rooms =
    let F = fixed P b in
    let G = ground_at p F env floor data_at base r b in
    let d = comes_to p F env floor data_at base e r b input q bytes n (λ k le. rooms k (omega (arith, le))) in
    let m = light_run F d.j (Go r base b input []) in
    let left : AreBytes s.input = subst (Kept BytesLeft) c.runs (run_keeps BytesLeft p bytes_last n (start p input) bytes) in
    let room : HasRoom G (running (entered s f)) = subst (HasRoom G) (behind_entry p input n f s c 0) (rooms (suc n + 0) (omega arith)) in
    keeps P low apart p env floor data_at base e r b list input q shows f (behind_call p env s) (entered s f)
    (begun_call P low apart p env floor data_at base e r b list input q shows d.j f s m refl (subst (λ x. Matches G x m) c.runs d.good) left c.next room) left

pub main_keeps : MainKeepsConvention
main_keeps P low apart p env floor data_at base e r b list input q shows bytes room =
    keeps P low apart p env floor data_at base e r b list input q shows p.main (base + 24) (start p input)
    (begun_main P low apart p env floor data_at base e r b list input q shows bytes room) bytes
