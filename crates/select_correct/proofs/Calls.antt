-- The machine follows flat code: calls and returns.
use Rattle.std.proofs.Common.{◌≡◌, ◌≢◌, inl, inr, ℕ, zero, suc, ◌+◌, ◌*◌, ◌-◌, ◌%◌, ◌^◌, ◌<◌, ◌≤◌, List, [], ◌∷◌, ◌++◌, length, Option, Some, None, Bool, true, false, refl, sym, ap, ◌∙◌, subst, arith, eqb}
use Rattle.std.specs.Prelude.{nat_lt, slice_get, ◌||◌}
use Rattle.std.proofs.lemmas.Bool.{lt-ltb, ltb-true, ltb-false}
use Rattle.std.proofs.lemmas.Bool.Decides.{nat_tests}
use Rattle.rv32.specs.declared.instr.Instr.TheVariants as instr
use Rattle.rv32.specs.Space.{word_at}
use Rattle.asm.specs.declared.item.Item.TheVariants as item
use Rattle.csem_events.specs.Events.{Event}
use Rattle.frames_code.specs.declared.code.Instruction.{Instruction}
use Rattle.frames_code.specs.declared.code.Instruction.TheVariants as instruction
use Rattle.frames_code.specs.Code.{frame_bytes}
use Rattle.frames_code.specs.Run.{Value, word, Values, Bytes, unset, Frame, State, Progress, running, ended, word_in, function_at, below_eight, from_eight, entered, result_of, returned, act}
use Rattle.frames_code.proofs.Results.{result_there}
use Rattle.select_exec.specs.Light.{Light, Go, reg, with_reg, Comes}
use Rattle.select_exec.proofs.Bridge.{bool_cases}
use Rattle.select_exec.proofs.Words.{with_other, word_same}
use Rattle.select_exec.proofs.Steps.{comes_now, comes_then, on_jump_register}
use Rattle.select_exec.proofs.ItemSteps.{on_call, on_near_call}
use Rattle.select_exec.proofs.Standing.{stands_parts}
use Rattle.select_exec.specs.Standing.{CallAt}
use Rattle.select.specs.Program.{calls_are_near}
use Rattle.select.specs.Selected.{kept, is_call, calls, change_sp, return_home, restores, take_return}
use Rattle.select_correct.specs.Matches.{gp_of, Ground, Ready, Returns, Holds, ArgumentsShow, Small, Waits, Matched, Matches, HasRoom, address, shown, file_below, file_of, return_at, temporary_at, argument_at}
use Rattle.select_correct.specs.Costs.{return_cost, frame_cost, opening_cost, row, call_cost, step_cost}
use Rattle.select_correct.specs.Laws.{Anything, Follows}
use Rattle.select_correct.proofs.Registers.{kept_above, kept_no_temporary, kept_once}
use Rattle.select_correct.proofs.Waiting.{waits_same}
use Rattle.select_correct.proofs.Fits.{Within, frame_tall, function_fits, temporary_lies}
use Rattle.select_correct.proofs.Frames.{within, sum_is}
use Rattle.select_correct.proofs.Forms.{used, word_some, fn, open_stack, fits, no_more}
use Rattle.select_correct.proofs.Entering.{Opened, changes_sp, restores_run, takes_return, enters}

or_true : (a c : Bool) → c ≡ true → (a || c) ≡ true
or_true true c e = refl
or_true false c e = e

-- a function whose code contains a call calls
calls_there : (code : List Instruction) (k g : ℕ) → slice_get code k ≡ Some (instruction.Call g) → calls code ≡ true
calls_there [] k g e = cc
calls_there (x ∷ code) zero g e = let same : x ≡ instruction.Call g = cc in ap (λ y. is_call y || calls code) same
calls_there (x ∷ code) (suc k) g e = or_true (is_call x) (calls code) (calls_there code k g e)

module _ (G : Ground) (ready : Ready G) where
  -- a frame has opened over the calls that wait
  pub opened_matched : (g sp : ℕ) (temporaries arguments : Values) (waiting : List Frame) (statics : Bytes) (input : List ℕ) (trace : List Event) (r b r2 b2 : ℕ → ℕ) → Within G.floor (function_at G.program g) sp → r 3 ≡ gp_of G → Small (file_of r)
      → ((k : ℕ) (v : Value) → temporaries k ≡ Some v → (k < 8) × (shown G v < 2 ^ 32) × (r (10 + k) ≡ shown G v)) → ArgumentsShow G (function_at G.program g) arguments b sp → Holds statics G.data_at 0 (length G.program.statics) b
      → Waits G waiting b (file_of r) (sp + frame_bytes (function_at G.program g)) (r 1) → Opened (function_at G.program g) sp r b r2 b2
      → Matched G (record { frame = record { function = g; at = 0; cells = unset; area = unset }; temporaries = temporaries; arguments = arguments; waiting = waiting; statics = statics; input = input; trace = trace }) r2 (address G g 0) b2
  opened_matched g sp temporaries arguments waiting statics input trace r b r2 b2 win gp small ts xs globals st o =
      let f = function_at G.program g in
      let below : (j : ℕ) → file_below f b2 sp (file_of r2) j ≡ file_of r j = λ j. bool_cases (nat_lt j f.resident)
      (λ t. rw t (o.homes_are j (ltb-true j f.resident t)))
      (λ t. rw t (o.file_stays j)) in
      let above : (k : ℕ) → sp + frame_bytes f ≤ k → b2 k ≡ b k = λ k le. o.off k (inr le) in
      record {
        sp = sp;
        at_is = refl;
        sp_is = o.sp_is;
        gp_is = o.gp_stays ∙ gp;
        low = win.low;
        bytes = o.bytes;
        frame = record {
          aligned = win.aligned;
          small = λ j. subst (λ x. x < 2 ^ 32) (sym (o.file_stays j)) (small j);
          cells = λ c v ec. cc;
          area = λ k c ek. cc;
        };
        temporaries = λ k v ek.
            let old = ts k v ek in
            let few : nat_lt k 8 ≡ true = lt-ltb k 8 old.0 in
            (omega (arith, old.0), old.1, rw few (o.temporaries_stay k old.0 ∙ old.2));
        arguments = λ k v ek.
            let old = xs k v ek in
            (old.0, old.1, word_same b b2 (argument_at f sp k) (λ j lo hi. above j (omega (arith, lo))) ∙ old.2);
        statics = λ k c ek. let old = globals k c ek in (old.0, old.1, o.off (G.data_at + k) (inl (omega (arith, old.1, ready.data_below, win.low))) ∙ old.2);
        waits = subst (Waits G waiting b2 (file_below f b2 sp (file_of r2)) (sp + frame_bytes f)) (sym o.ra_is)
            (waits_same G waiting b b2 (file_of r) (file_below f b2 sp (file_of r2)) (sp + frame_bytes f) (r 1) above below st);
      }

module _ (G : Ground) (s : State) (r b : ℕ → ℕ) (ready : Ready G) (m : Matched G s r (address G s.frame.function s.frame.at) b) where
  abbrev start : ℕ
  start = address G s.frame.function s.frame.at

  abbrev end : ℕ
  end = address G s.frame.function (s.frame.at + 1)

  -- ---- Call

  -- at the entry of the function that is called: but for ra, with the address to return to, all is as it was
  abbrev pub at_entry : ℕ → Light
  at_entry g = Go (with_reg r 1 end) (G.env g) b s.input s.trace

  call_end : (near : Bool) (a to next : ℕ) → CallAt near G.machine.text a to next → (next ≤ a + 8) × (a % 4 ≡ 0 → next % 4 ≡ 0)
  call_end true a to next q = (omega (arith, q.next_is), λ al. omega (arith, q.next_is, al))
  call_end false a to next q = (omega (arith, q.next_is), λ al. omega (arith, q.next_is, al))

  called : (near : Bool) (g : ℕ) → g < length G.program.functions → CallAt near G.machine.text start (G.env g) end → Comes G.machine Anything 1 (call_cost near) (Go r start b s.input s.trace) (λ x. x ≡ at_entry g)
  called true g known q =
      on_near_call G.machine Anything (λ x. x ≡ at_entry g) 0 r start b s.input s.trace tt (G.env g) end (ready.entry_aligned g known) q (comes_now G.machine Anything 0 _ (λ x. x ≡ at_entry g) tt refl)
  called false g known q =
      on_call G.machine Anything (λ x. x ≡ at_entry g) 0 r start b s.input s.trace tt (G.env g) end (ready.entry_aligned g known) q tt (comes_now G.machine Anything 0 _ (λ x. x ≡ at_entry g) tt refl)

  pub calls_to : (g : ℕ) → slice_get (fn G s r b ready m).code s.frame.at ≡ Some (instruction.Call g) → Comes G.machine Anything 1 (call_cost (calls_are_near G.program)) (Go r start b s.input s.trace) (λ x. x ≡ at_entry g)
  calls_to g e = called (calls_are_near G.program) g (fits G s r b ready m (instruction.Call g) e) (ready.calls s.frame.function s.frame.at g e)

  -- its frame opens
  pub opens : (g : ℕ) → (m.sp ≡ G.watch_sp → (end ≡ G.watch_ra) × ((j : ℕ) → file_of r j ≡ G.watch_file j)) → slice_get (fn G s r b ready m).code s.frame.at ≡ Some (instruction.Call g) → HasRoom G (act G.program s (instruction.Call g))
      → Comes G.machine Anything 1 (opening_cost (function_at G.program g)) (at_entry g) (Matches G (running (entered s g)))
  opens g seen e room =
      let Q : Light → Type 0 = Matches G (running (entered s g)) in
      let f = function_at G.program g in
      let q = call_end (calls_are_near G.program) start (G.env g) end (ready.calls s.frame.function s.frame.at g e) in
      let known = fits G s r b ready m (instruction.Call g) e in
      let fit = function_fits G.program ready.sound g in
      let mine = within G ready s r start b m in
      let sum = sum_is G ready s r start b m in
      let tall = frame_tall f in
      let sp = m.sp - frame_bytes f in
      let up : sp + frame_bytes f ≡ m.sp = omega (arith, room, sum) in
      let win : Within G.floor f sp = record { low = omega (arith, room, sum); top = omega (arith, up, mine.top); aligned = omega (arith, up, mine.aligned, tall) } in
      let here = ready.aligned s.frame.function s.frame.at (instruction.Call g) e in
      let small : end < 2 ^ 32 = omega (arith, here.1, q.0) in
      let even : end % 4 ≡ 0 = q.1 here.0 in
      let r1 = with_reg r 1 end in
      let stays : (k : ℕ) → k ≢ 1 → r1 k ≡ r k = λ k ne. with_other r 1 end k ne in
      let file : (j : ℕ) → file_of r1 j ≡ file_of r j = λ j. stays (kept j) (λ x. omega (arith, x, kept_above j)) in
      let words : Small (file_of r1) = λ j. subst (λ x. x < 2 ^ 32) (sym (file j)) (m.frame.small j) in
      let w : Frame = record s.frame { at = s.frame.at + 1 } in
      let calling : calls (fn G s r b ready m).code ≡ true = calls_there (fn G s r b ready m).code s.frame.at g e in
      let back : Returns G w (file_of r) m.sp end = record { at_is = refl; aligned = even; small = small; calls = calling; seen = seen } in
      let caller = fn G s r b ready m in
      let stored : return_at caller b m.sp (r 1) ≡ word_at b (m.sp + return_home caller) = rw calling refl in
      let others : Waits G s.waiting b (file_below caller b m.sp (file_of r)) (m.sp + frame_bytes caller) (word_at b (m.sp + return_home caller)) =
      subst (Waits G s.waiting b (file_below caller b m.sp (file_of r)) (m.sp + frame_bytes caller)) stored m.waits in
      let waits : Waits G (w ∷ s.waiting) b (file_of r) m.sp end = (back, record { aligned = m.frame.aligned; small = m.frame.small; cells = m.frame.cells; area = m.frame.area }, others) in
      let waits1 : Waits G (w ∷ s.waiting) b (file_of r1) (sp + frame_bytes f) end = subst (λ x. Waits G (w ∷ s.waiting) b (file_of r1) x end) (sym up) (waits_same G (w ∷ s.waiting) b b (file_of r) (file_of r1) m.sp end (λ k le. refl) file waits) in
      let ts : (k : ℕ) (v : Value) → below_eight s.temporaries k ≡ Some v → (k < 8) × (shown G v < 2 ^ 32) × (r1 (10 + k) ≡ shown G v) = λ k v ek. bool_cases (nat_lt k 8)
      (λ t.
      let before : s.temporaries k ≡ Some v = rw t at ek in
      let old = m.temporaries k v before in
      let held : r (10 + k) ≡ shown G v = rw t at old.2 in
      (ltb-true k 8 t, old.1, stays (10 + k) (λ x. omega (arith, x)) ∙ held))
      (λ t. let no : None ≡ Some v = rw t at ek in cc) in
      let gp1 : r1 3 ≡ gp_of G = stays 3 (λ x. omega (arith, x)) ∙ m.gp_is in
      let xs : ArgumentsShow G f (from_eight s.temporaries) b sp = λ k v ek. bool_cases (nat_lt k 8)
      (λ t. let no : None ≡ Some v = rw t at ek in cc)
      (λ t.
      let before : s.temporaries k ≡ Some v = rw t at ek in
      let old = m.temporaries k v before in
      let held : word_at b (m.sp + 4 * (k - 8)) ≡ shown G v = rw t at old.2 in
      let lies = temporary_lies (fn G s r b ready m) m.sp mine k (ltb-false k 8 t) old.0 in
      let there : argument_at f sp k ≡ m.sp + 4 * (k - 8) = omega (arith, up) in
      (old.1, omega (arith, there, lies.top), ap (word_at b) there ∙ held)) in
      enters G.machine G.env G.data_at s.input s.trace Q f sp win (record { reads = λ a lo hi. ready.stack_read a (omega (arith, lo, win.low)) hi; writes = λ a lo hi. ready.stack_written a (omega (arith, lo, win.low)) hi }) m.sp (G.env g) (address G g 0) r1 b fit.all up (omega (arith, mine.top)) fit.small m.sp_is words small m.bytes (ready.entries g known) (λ r2 b2 o.
      comes_now G.machine Anything 0 _ Q tt
      (opened_matched G ready g sp (below_eight s.temporaries) (from_eight s.temporaries) (w ∷ s.waiting) s.statics s.input s.trace r1 b r2 b2 win gp1 words ts xs m.statics waits1 o, refl, refl))

  pub does_call : (g : ℕ) → (m.sp ≡ G.watch_sp → (end ≡ G.watch_ra) × ((j : ℕ) → file_of r j ≡ G.watch_file j)) → slice_get (fn G s r b ready m).code s.frame.at ≡ Some (instruction.Call g) → HasRoom G (act G.program s (instruction.Call g)) → Comes G.machine Anything 1 (step_cost G.program (fn G s r b ready m) (instruction.Call g)) (Go r start b s.input s.trace) (Matches G (act G.program s (instruction.Call g)))
  does_call g seen e room =
      let Q : Light → Type 0 = Matches G (running (entered s g)) in
      let opened = opening_cost (function_at G.program g) in
      let c : Comes G.machine Anything (1 + 1) (call_cost (calls_are_near G.program) + opened) (Go r start b s.input s.trace) Q =
      comes_then G.machine Anything (call_cost (calls_are_near G.program)) opened (Go r start b s.input s.trace) (λ x. x ≡ at_entry g) Q (calls_to g e) (λ x ex. subst (λ y. Comes G.machine Anything 1 opened y Q) (sym ex) (opens g seen e room)) in
      record { j = c.j; some = omega (arith, c.some); within = c.within; kept = c.kept; good = c.good }

  -- ---- Return

  -- the frame closes: the registers are those that the frame below sees
  pub leaves : (Q : Light → Type 0) → slice_get (fn G s r b ready m).code s.frame.at ≡ Some instruction.Return → return_at (fn G s r b ready m) b m.sp (r 1) % 4 ≡ 0 → return_at (fn G s r b ready m) b m.sp (r 1) < 2 ^ 32
      → ((r2 : ℕ → ℕ) → r2 2 ≡ m.sp + frame_bytes (fn G s r b ready m) → ((j : ℕ) → file_of r2 j ≡ file_below (fn G s r b ready m) b m.sp (file_of r) j) → r2 10 ≡ r 10 → r2 3 ≡ r 3 → Comes G.machine Anything 0 0 (Go r2 (return_at (fn G s r b ready m) b m.sp (r 1)) b s.input s.trace) Q)
      → Comes G.machine Anything 1 (row (fn G s r b ready m) instruction.Return) (Go r start b s.input s.trace) Q
  leaves Q e al small next_to =
      let f = fn G s r b ready m in
      let fit = function_fits G.program ready.sound s.frame.function in
      let win = within G ready s r start b m in
      let stack = open_stack G s r b ready m in
      let ra = return_at f b m.sp (r 1) in
      let up = m.sp + frame_bytes f in
      let jump = item.Plain (instr.Jalr 0 1 0) in
      let st = ready.stands s.frame.function s.frame.at instruction.Return e in
      let one = stands_parts G.machine.text G.env G.data_at (restores f f.resident) (take_return f ++ (change_sp (frame_bytes f) ++ (jump ∷ []))) start end st in
      let two = stands_parts G.machine.text G.env G.data_at (take_return f) (change_sp (frame_bytes f) ++ (jump ∷ [])) one.0 end one.2 in
      let three = stands_parts G.machine.text G.env G.data_at (change_sp (frame_bytes f)) (jump ∷ []) two.0 end two.2 in
      restores_run G.machine G.env G.data_at s.input s.trace Q f m.sp win stack r m.sp_is b f.resident fit.all (return_cost f + (frame_cost (frame_bytes f) + 1)) start one.0 one.1 (λ r1 z.
      let sp1 : r1 2 ≡ m.sp = z.others 2 (λ j lt x. omega (arith, x, kept_above j)) ∙ m.sp_is in
      let ra1 : r1 1 ≡ r 1 = z.others 1 (λ j lt x. omega (arith, x, kept_above j)) in
      takes_return G.machine G.env G.data_at s.input s.trace Q f m.sp win stack r1 b sp1 (frame_cost (frame_bytes f) + 1) one.0 two.0 two.1 (λ r2 only held.
      let sp2 : r2 2 ≡ m.sp = only.each 2 (λ x. omega (arith, x)) ∙ sp1 in
      changes_sp G.machine G.env G.data_at s.input s.trace Q {a0 = 1} 1 (frame_bytes f) m.sp up two.0 three.0 r2 b sp2 (omega (arith, win.top)) three.1 (λ r3 q.
      let held3 : reg r3 1 ≡ ra = q.each 1 (λ x. omega (arith, x)) (λ x. omega (arith, x)) ∙ (held ∙ ap (return_at f b m.sp) ra1) in
      on_jump_register G.machine Anything Q 0 r3 three.0 b s.input s.trace tt 0 1 0 ra three.2.1.0 (omega (arith, held3, small)) al
      (next_to r3 q.sp_is
      (λ j.
      let same : r3 (kept j) ≡ r1 (kept j) = q.each (kept j) (λ x. omega (arith, x, kept_above j)) (λ x. omega (arith, x, kept_above j)) ∙ only.each (kept j) (λ x. omega (arith, x, kept_above j)) in
      same ∙ bool_cases (nat_lt j f.resident)
      (λ t. rw t (z.given j (ltb-true j f.resident t)))
      (λ t. rw t (z.others (kept j) (λ c lt x. omega (arith, kept_once j c x, lt, ltb-false j f.resident t)))))
      (q.each 10 (λ x. omega (arith, x)) (λ x. omega (arith, x)) ∙ (only.each 10 (λ x. omega (arith, x)) ∙ z.others 10 (λ j lt x. kept_no_temporary j 0 (omega arith) (sym x))))
      (q.each 3 (λ x. omega (arith, x)) (λ x. omega (arith, x)) ∙ (only.each 3 (λ x. omega (arith, x)) ∙ z.others 3 (λ j lt x. omega (arith, x, kept_above j))))))))

  abbrev below : ℕ → ℕ
  below = file_below (fn G s r b ready m) b m.sp (file_of r)

  abbrev base : ℕ
  base = m.sp + frame_bytes (fn G s r b ready m)

  abbrev back_to : ℕ
  back_to = return_at (fn G s r b ready m) b m.sp (r 1)

  -- with a result that is in temporary 0, or none
  returns_to : (result : Option Value) → ((v : Value) → result ≡ Some v → s.temporaries 0 ≡ Some v) → (ws : List Frame) → Waits G ws b below base back_to → slice_get (fn G s r b ready m).code s.frame.at ≡ Some instruction.Return
      → Comes G.machine Anything 1 (row (fn G s r b ready m) instruction.Return) (Go r start b s.input s.trace) (Matches G (returned s result ws))
  returns_to result there [] st e =
      let R : Progress → Type 0 = λ p. Comes G.machine Anything 1 (row (fn G s r b ready m) instruction.Return) (Go r start b s.input s.trace) (Matches G p) in
      used (word_in result) (λ v. ended (v % 2 ^ 8) s.input s.trace) R (no_more G s r b ready m 1 (row (fn G s r b ready m) instruction.Return) (Go r start b s.input s.trace) (omega arith)) (λ v ev.
      let Q : Light → Type 0 = Matches G (ended (v % 2 ^ 8) s.input s.trace) in
      let held : r 10 ≡ v = (m.temporaries 0 (word v) (there (word v) (word_some result v ev))).2 in
      leaves Q e (omega (arith, st.3, ready.return_aligned)) (omega (arith, st.3, ready.return_small)) (λ r2 e2 ef e10 e3.
      let status : r2 10 % 2 ^ 8 ≡ v % 2 ^ 8 = ap (λ x. x % 2 ^ 8) (e10 ∙ held) in
      comes_now G.machine Anything 0 _ Q tt
      (record { at_is = st.3; sp_is = e2 ∙ st.0; file_is = λ j. ef j ∙ st.2 j; bytes_are = λ k le. st.4 k (omega (arith, le, st.0)); status_is = status }, refl, refl)))
  returns_to result there (w ∷ ws) st e =
      let Q : Light → Type 0 = Matches G (returned s result (w ∷ ws)) in
      leaves Q e st.0.aligned st.0.small (λ r2 e2 ef e10 e3.
      let f = function_at G.program w.function in
      let st2 : Waits G (w ∷ ws) b (file_of r2) base back_to = waits_same G (w ∷ ws) b b below (file_of r2) base back_to (λ k le. refl) ef st in
      let stored : return_at f b base (r2 1) ≡ word_at b (base + return_home f) = rw st2.0.calls refl in
      comes_now G.machine Anything 0 _ Q tt (
        record {
          sp = base;
          at_is = st2.0.at_is;
          sp_is = e2;
          gp_is = e3 ∙ m.gp_is;
          low = omega (arith, m.low);
          bytes = m.bytes;
          frame = record { aligned = st2.1.aligned; small = st2.1.small; cells = st2.1.cells; area = st2.1.area };
          temporaries = λ k v ek. bool_cases (eqb k 0)
              (λ t.
              let is : k ≡ 0 = grind (arith, nat_tests) in
              let first : result ≡ Some v = rw t at ek in
              let old = m.temporaries 0 v (there v first) in
              (omega (arith, is), old.1, subst (λ x. temporary_at r2 b base x ≡ shown G v) (sym is) (e10 ∙ old.2)))
              (λ t. let no : None ≡ Some v = rw t at ek in cc);
          arguments = λ k v ek. cc;
          statics = m.statics;
          waits = subst (Waits G ws b (file_below f b base (file_of r2)) (base + frame_bytes f)) (sym stored) st2.2;
        },
        refl,
        refl,
      ))

-- ---- as laws

pub call_follows : (g : ℕ) → Follows (instruction.Call g)
call_follows g G s r b ready m under e room =
    let sum = sum_is G ready s r (address G s.frame.function s.frame.at) b m in
    does_call G s r b ready m g (λ x. absurd (omega (arith, x, sum, under))) e room

pub return_follows : Follows instruction.Return
return_follows G s r b ready m under e room = returns_to G s r b ready m (result_of G.program s) (result_there G.program s) s.waiting m.waits e
