-- The parts of a match that are kept when registers and bytes of the frame change.
use Rattle.std.proofs.Common.{◌≡◌, ◌≢◌, ◌⊎◌, inl, inr, ⊎_elim, ℕ, ◌+◌, ◌*◌, ◌-◌, ◌^◌, ◌<◌, ◌≤◌, Some, true, false, refl, sym, ap, ◌∙◌, subst, arith, eqb}
use Rattle.std.specs.Prelude.{nat_lt}
use Rattle.std.proofs.lemmas.Bool.{lt-ltb, ltb-true, le-ltb, ltb-false}
use Rattle.std.proofs.lemmas.Bool.Decides.{nat_tests}
use Rattle.rv32.specs.Space.{word_at}
use Rattle.frames_code.specs.declared.code.Operand.{Operand}
use Rattle.frames_code.specs.declared.code.Operand.TheVariants as operand
use Rattle.frames_code.specs.declared.code.Target.{Target}
use Rattle.frames_code.specs.declared.code.Target.TheVariants as target
use Rattle.frames_code.specs.Code.{Function, cell_home, area_home, frame_bytes}
use Rattle.frames_code.specs.Sound.{OperandFits, TargetFits}
use Rattle.frames_code.specs.Run.{Value, word, Values, State, value, set, with_at, function_at, bytes_of}
use Rattle.select_exec.specs.Light.{with_word}
use Rattle.select_exec.proofs.Bridge.{bool_cases}
use Rattle.select_exec.proofs.Words.{reg_is, word_off, word_same, word_apart, word_back, word_bytes}
use Rattle.select.specs.declared.places.Home.TheVariants as home
use Rattle.select.specs.Selected.{kept, calls, source_of, home_of, return_home}
use Rattle.select_correct.specs.Matches.{Ground, Matched, Ready, Shows, Small, Waits, address, file_of, cell_at, file_below, return_at, temporary_at, argument_at, shown}
use Rattle.select_correct.proofs.Registers.{Off, kept_above, kept_no_temporary, kept_once, off_kept, off_kept_free, off_temporary, off_sp, off_ra, off_gp}
use Rattle.select_correct.proofs.Waiting.{if_same, waits_same, waits_sum}
use Rattle.select_correct.proofs.Places.{SourceHolds, Lies}
use Rattle.select_correct.proofs.Fits.{Within, frame_room, cell_lies, temporary_lies, argument_lies, words_apart}

module _ (G : Ground) (ready : Ready G) (s : State) (r : ℕ → ℕ) (at : ℕ) (b : ℕ → ℕ) (m : Matched G s r at b) where
  abbrev pub the : Function
  the = function_at G.program s.frame.function

  pub sum_is : m.sp + frame_bytes the + bytes_of G.program s.waiting ≡ G.sp
  sum_is = waits_sum G s.waiting b _ (m.sp + frame_bytes the) _ m.waits

  pub within : Within G.floor the m.sp
  within = record { low = m.low; top = omega (arith, sum_is, ready.top); aligned = m.frame.aligned }

  -- the frame, its instruction, cells and temporaries, and arguments that were there
  abbrev pub now_at : ℕ → Values → Values → Values → State
  now_at a cells temporaries arguments = record s {
    frame = record s.frame { at = a; cells = cells };
    temporaries = temporaries;
    arguments = arguments;
  }

  -- everything except what is named is unchanged, where only bytes before the frame's arrays change
  pub on_with : (a at2 : ℕ) (cells temporaries arguments : Values) (r2 b2 : ℕ → ℕ) → at2 ≡ address G s.frame.function a → r2 2 ≡ r 2 → r2 1 ≡ r 1 → r2 3 ≡ r 3 → Small (file_of r2) → ((k : ℕ) → b2 k < 2 ^ 8)
      → Shows G the.cells cells (cell_at the b2 m.sp (file_of r2)) → Shows G (8 + the.outgoing) temporaries (temporary_at r2 b2 m.sp) → ((k : ℕ) (v : Value) → arguments k ≡ Some v → s.arguments k ≡ Some v)
      → ((j : ℕ) → file_below the b2 m.sp (file_of r2) j ≡ file_below the b m.sp (file_of r) j) → ((k : ℕ) → (k < m.sp) ⊎ (m.sp + area_home the ≤ k) → b2 k ≡ b k) → Matched G (now_at a cells temporaries arguments) r2 at2 b2
  on_with a at2 cells temporaries arguments r2 b2 e e2 e1 e3 small bytes cs ts sub below same =
      let room = frame_room the in
      let behind : (k : ℕ) → m.sp + area_home the ≤ k → b2 k ≡ b k = λ k le. same k (inr le) in
      let ret : return_at the b2 m.sp (r2 1) ≡ return_at the b m.sp (r 1) = if_same (calls the.code) _ _ (r 1) (r2 1) (word_same b b2 (m.sp + return_home the) (λ k lo hi. behind k (omega (arith, lo, room)))) e1 in
      record {
        sp = m.sp;
        at_is = e;
        sp_is = e2 ∙ m.sp_is;
        gp_is = e3 ∙ m.gp_is;
        low = m.low;
        bytes = bytes;
        frame = record {
          aligned = m.frame.aligned;
          small = small;
          cells = cs;
          area = λ k c ek. let old = m.frame.area k c ek in (old.0, old.1, behind (m.sp + k) (omega (arith, old.0)) ∙ old.2);
        };
        temporaries = ts;
        arguments = λ k v ek. let old = m.arguments k v (sub k v ek) in (old.0, old.1, word_same b b2 (argument_at the m.sp k) (λ j lo hi. behind j (omega (arith, lo, room))) ∙ old.2);
        statics = λ k c ek. let old = m.statics k c ek in (old.0, old.1, same (G.data_at + k) (inl (omega (arith, old.1, ready.data_below, m.low))) ∙ old.2);
        waits = subst (Waits G s.waiting b2 (file_below the b2 m.sp (file_of r2)) (m.sp + frame_bytes the)) (sym ret)
            (waits_same G s.waiting b b2 (file_below the b m.sp (file_of r)) (file_below the b2 m.sp (file_of r2)) (m.sp + frame_bytes the) (return_at the b m.sp (r 1)) (λ k le. behind k (omega (arith, le, room))) below m.waits);
      }

  -- ---- what is unchanged

  pub cells_same : (r2 : ℕ → ℕ) → ((j : ℕ) → r2 (kept j) ≡ r (kept j)) → Shows G the.cells s.frame.cells (cell_at the b m.sp (file_of r2))
  cells_same r2 e c v ec =
      let old = m.frame.cells c v ec in
      (old.0, old.1, if_same (nat_lt c the.resident) (r (kept c)) (r2 (kept c)) _ _ (e c) refl ∙ old.2)

  pub temporary_same : (r2 b2 : ℕ → ℕ) (k : ℕ) → (k < 8 → r2 (10 + k) ≡ r (10 + k)) → (8 ≤ k → word_at b2 (m.sp + 4 * (k - 8)) ≡ word_at b (m.sp + 4 * (k - 8))) → temporary_at r2 b2 m.sp k ≡ temporary_at r b m.sp k
  temporary_same r2 b2 k low high = bool_cases (nat_lt k 8) (λ t. rw t (low (ltb-true k 8 t))) (λ t. rw t (high (ltb-false k 8 t)))

  pub temporaries_same : (r2 b2 : ℕ → ℕ) → ((k : ℕ) → k < 8 → r2 (10 + k) ≡ r (10 + k)) → ((k : ℕ) → 8 ≤ k → k < 8 + the.outgoing → word_at b2 (m.sp + 4 * (k - 8)) ≡ word_at b (m.sp + 4 * (k - 8))) → Shows G (8 + the.outgoing) s.temporaries (temporary_at r2 b2 m.sp)
  temporaries_same r2 b2 low high k v ek = let old = m.temporaries k v ek in (old.0, old.1, temporary_same r2 b2 k (low k) (λ ge. high k ge old.0) ∙ old.2)

  pub small_same : (r2 : ℕ → ℕ) → ((j : ℕ) → r2 (kept j) ≡ r (kept j)) → Small (file_of r2)
  small_same r2 e j = subst (λ x. x < 2 ^ 32) (sym (e j)) (m.frame.small j)

  -- the same frame, with free registers written
  pub moved : (a at2 : ℕ) (arguments : Values) (r2 : ℕ → ℕ) → Off 5 r r2 → at2 ≡ address G s.frame.function a → ((k : ℕ) (v : Value) → arguments k ≡ Some v → s.arguments k ≡ Some v) → Matched G (now_at a s.frame.cells s.temporaries arguments) r2 at2 b
  moved a at2 arguments r2 o e sub =
      let f = off_kept_free r r2 o in
      on_with a at2 s.frame.cells s.temporaries arguments r2 b e (off_sp 5 r r2 o (λ x. omega (arith, x))) (off_ra 5 r r2 o (λ x. omega (arith, x))) (off_gp 5 r r2 o (λ x. omega (arith, x))) (small_same r2 f) m.bytes (cells_same r2 f)
      (temporaries_same r2 b (λ k lt. off_temporary 5 r r2 o k (λ x. omega (arith, x))) (λ k lo hi. refl)) sub
      (λ j. if_same (nat_lt j the.resident) _ _ (r (kept j)) (r2 (kept j)) refl (f j)) (λ k side. refl)

  -- ---- the source of an operand has its value

  pub operand_holds : (x : Operand) (v : Value) → OperandFits the x → value s x ≡ Some v → SourceHolds r b m.sp (source_of the x) (shown G v) × (shown G v < 2 ^ 32)
  operand_holds (operand.Temporary k) v fit e =
      let old = m.temporaries k v e in
      bool_cases (nat_lt k 8)
      (λ t.
      let there : r (10 + k) ≡ shown G v = rw t at old.2 in
      let held : SourceHolds r b m.sp (source_of the (operand.Temporary k)) (shown G v) = rw t (reg_is r (10 + k) (omega arith) ∙ there, λ x. omega (arith, x), λ x. omega (arith, x), λ x. omega (arith, x)) in
      (held, old.1))
      (λ t.
      let there : word_at b (m.sp + 4 * (k - 8)) ≡ shown G v = rw t at old.2 in
      let held : SourceHolds r b m.sp (source_of the (operand.Temporary k)) (shown G v) = rw t (temporary_lies the m.sp within k (ltb-false k 8 t) old.0, there) in
      (held, old.1))
  operand_holds (operand.Cell c) v fit e =
      let old = m.frame.cells c v e in
      bool_cases (nat_lt c the.resident)
      (λ t.
      let there : r (kept c) ≡ shown G v = rw t at old.2 in
      let above = kept_above c in
      let held : SourceHolds r b m.sp (source_of the (operand.Cell c)) (shown G v) = rw t (reg_is r (kept c) (omega (arith, above)) ∙ there, λ x. omega (arith, x, above), λ x. omega (arith, x, above), λ x. omega (arith, x, above)) in
      (held, old.1))
      (λ t.
      let there : word_at b (m.sp + cell_home the c) ≡ shown G v = rw t at old.2 in
      let held : SourceHolds r b m.sp (source_of the (operand.Cell c)) (shown G v) = rw t (cell_lies the m.sp within c old.0, there) in
      (held, old.1))
  operand_holds (operand.Constant u) v fit e =
      let same : word u ≡ v = cc in
      let is : u ≡ shown G v = ap (shown G) same in
      bool_cases (eqb u 0)
      (λ t.
      let zero : u ≡ 0 = grind (arith, nat_tests) in
      let held : SourceHolds r b m.sp (source_of the (operand.Constant u)) (shown G v) = rw t (sym zero ∙ is, λ x. omega (arith, x), λ x. omega (arith, x), λ x. omega (arith, x)) in
      (held, omega (arith, is, fit)))
      (λ t.
      let held : SourceHolds r b m.sp (source_of the (operand.Constant u)) (shown G v) = rw t (is, fit) in
      (held, omega (arith, is, fit)))
  operand_holds (operand.Argument k) v fit e =
      let old = m.arguments k v e in
      ((argument_lies the m.sp within k old.1, old.2), old.0)

  -- ---- a target is set

  module _ (a at2 : ℕ) (arguments : Values) (sub : (k : ℕ) (v : Value) → arguments k ≡ Some v → s.arguments k ≡ Some v) (w : Value) (small : shown G w < 2 ^ 32) (e : at2 ≡ address G s.frame.function a) (r2 : ℕ → ℕ) where
    -- a temporary in a register
    to_temporary : (k : ℕ) → k < 8 → Off (10 + k) r r2 → r2 (10 + k) ≡ shown G w → Matched G (now_at a s.frame.cells (with_at s.temporaries k w) arguments) r2 at2 b
    to_temporary k lt o ew =
        let f : (j : ℕ) → r2 (kept j) ≡ r (kept j) = λ j. off_kept (10 + k) r r2 o j (kept_no_temporary j k lt) in
        on_with a at2 s.frame.cells (with_at s.temporaries k w) arguments r2 b e (off_sp (10 + k) r r2 o (λ x. omega (arith, x))) (off_ra (10 + k) r r2 o (λ x. omega (arith, x))) (off_gp (10 + k) r r2 o (λ x. omega (arith, x))) (small_same r2 f) m.bytes (cells_same r2 f)
        (λ i v ei.
        bool_cases (eqb i k)
        (λ t.
        let is : i ≡ k = grind (arith, nat_tests) in
        let now : Some w ≡ Some v = rw t at ei in
        let same : w ≡ v = cc in
        let few : nat_lt i 8 ≡ true = lt-ltb i 8 (omega (arith, lt, is)) in
        (omega (arith, lt, is), subst (λ x. shown G x < 2 ^ 32) same small, rw few (ap (λ x. r2 (10 + x)) is ∙ (ew ∙ ap (shown G) same))))
        (λ t.
        let before : s.temporaries i ≡ Some v = rw t at ei in
        let old = m.temporaries i v before in
        let ne : i ≢ k = grind (arith, nat_tests) in
        (old.0, old.1, temporary_same r2 b i (λ li. off_temporary (10 + k) r r2 o i (λ x. ne (omega (arith, x)))) (λ ge. refl) ∙ old.2)))
        sub (λ j. if_same (nat_lt j the.resident) _ _ (r (kept j)) (r2 (kept j)) refl (f j)) (λ k side. refl)

    -- one from the ninth on
    to_low_temporary : (k : ℕ) → 8 ≤ k → k < 8 + the.outgoing → Off 5 r r2 → Matched G (now_at a s.frame.cells (with_at s.temporaries k w) arguments) r2 at2 (with_word b (m.sp + 4 * (k - 8)) (shown G w))
    to_low_temporary k ge lt o =
        let here = m.sp + 4 * (k - 8) in
        let b2 = with_word b here (shown G w) in
        let f = off_kept_free r r2 o in
        let far : (c : ℕ) → word_at b2 (m.sp + cell_home the c) ≡ word_at b (m.sp + cell_home the c) = λ c. word_apart b here (shown G w) (m.sp + cell_home the c) (inl (omega (arith, ge, lt))) in
        on_with a at2 s.frame.cells (with_at s.temporaries k w) arguments r2 b2 e (off_sp 5 r r2 o (λ x. omega (arith, x))) (off_ra 5 r r2 o (λ x. omega (arith, x))) (off_gp 5 r r2 o (λ x. omega (arith, x))) (small_same r2 f) (word_bytes b here (shown G w) small m.bytes)
        (λ c v ec. let old = m.frame.cells c v ec in (old.0, old.1, if_same (nat_lt c the.resident) (r (kept c)) (r2 (kept c)) _ _ (f c) (far c) ∙ old.2))
        (λ i v ei.
        bool_cases (eqb i k)
        (λ t.
        let is : i ≡ k = grind (arith, nat_tests) in
        let now : Some w ≡ Some v = rw t at ei in
        let same : w ≡ v = cc in
        let big : nat_lt i 8 ≡ false = le-ltb i 8 (omega (arith, ge, is)) in
        (omega (arith, lt, is), subst (λ x. shown G x < 2 ^ 32) same small, rw big (ap (λ x. word_at b2 (m.sp + 4 * (x - 8))) is ∙ (word_back b here (shown G w) small ∙ ap (shown G) same))))
        (λ t.
        let before : s.temporaries i ≡ Some v = rw t at ei in
        let old = m.temporaries i v before in
        let ne : i ≢ k = grind (arith, nat_tests) in (
          old.0,
          old.1,
          temporary_same r2 b2 i (λ li. off_temporary 5 r r2 o i (λ x. omega (arith, x)))
              (λ gi. word_apart b here (shown G w) (m.sp + 4 * (i - 8)) (words_apart m.sp (4 * (k - 8)) (4 * (i - 8)) (omega arith) (omega arith) (λ x. ne (omega (arith, x, ge, gi))))) ∙ old.2,
        )))
        sub
        (λ j. bool_cases (nat_lt j the.resident) (λ t. rw t (far j)) (λ t. rw t (f j)))
        (λ j side. word_off b here (shown G w) j (⊎_elim (λ x. inr (omega (arith, x))) (λ x. inl (omega (arith, x, ge, lt))) side))

    -- a word of the frame that is in a register
    to_register : (c : ℕ) → c < the.cells → nat_lt c the.resident ≡ true → Off (kept c) r r2 → r2 (kept c) ≡ shown G w → Matched G (now_at a (with_at s.frame.cells c w) s.temporaries arguments) r2 at2 b
    to_register c lt res o ew =
        let f : (j : ℕ) → j ≢ c → r2 (kept j) ≡ r (kept j) = λ j ne. off_kept (kept c) r r2 o j (λ x. ne (kept_once j c x)) in
        on_with a at2 (with_at s.frame.cells c w) s.temporaries arguments r2 b e (off_sp (kept c) r r2 o (λ x. omega (arith, x, kept_above c))) (off_ra (kept c) r r2 o (λ x. omega (arith, x, kept_above c))) (off_gp (kept c) r r2 o (λ x. omega (arith, x, kept_above c)))
        (λ j. bool_cases (eqb j c)
        (λ t.
        let is : j ≡ c = grind (arith, nat_tests) in
        let there : r2 (kept j) ≡ shown G w = ap (λ x. r2 (kept x)) is ∙ ew in
        subst (λ x. x < 2 ^ 32) (sym there) small)
        (λ t.
        let ne : j ≢ c = grind (arith, nat_tests) in
        subst (λ x. x < 2 ^ 32) (sym (f j ne)) (m.frame.small j)))
        m.bytes
        (λ d v ed.
        bool_cases (eqb d c)
        (λ t.
        let is : d ≡ c = grind (arith, nat_tests) in
        let now : Some w ≡ Some v = rw t at ed in
        let same : w ≡ v = cc in
        let there : cell_at the b m.sp (file_of r2) c ≡ shown G w = rw res ew in
        (omega (arith, lt, is), subst (λ x. shown G x < 2 ^ 32) same small, ap (cell_at the b m.sp (file_of r2)) is ∙ (there ∙ ap (shown G) same)))
        (λ t.
        let before : s.frame.cells d ≡ Some v = rw t at ed in
        let old = m.frame.cells d v before in
        let ne : d ≢ c = grind (arith, nat_tests) in
        (old.0, old.1, if_same (nat_lt d the.resident) (r (kept d)) (r2 (kept d)) _ _ (f d ne) refl ∙ old.2)))
        (temporaries_same r2 b (λ k lk. off_temporary (kept c) r r2 o k (λ x. kept_no_temporary c k lk (sym x))) (λ k lo hi. refl)) sub
        (λ j. bool_cases (nat_lt j the.resident)
        (λ t. rw t refl)
        (λ t.
        let ne : j ≢ c = λ x. (let both : nat_lt c the.resident ≡ false = ap (λ y. nat_lt y the.resident) (sym x) ∙ t in cc) in
        rw t (f j ne)))
        (λ k side. refl)

    -- one in memory
    to_memory : (c : ℕ) → c < the.cells → nat_lt c the.resident ≡ false → Off 5 r r2 → Matched G (now_at a (with_at s.frame.cells c w) s.temporaries arguments) r2 at2 (with_word b (m.sp + cell_home the c) (shown G w))
    to_memory c lt res o =
        let here = m.sp + cell_home the c in
        let b2 = with_word b here (shown G w) in
        let f = off_kept_free r r2 o in
        let far : (d : ℕ) → d ≢ c → word_at b2 (m.sp + cell_home the d) ≡ word_at b (m.sp + cell_home the d) = λ d ne.
        word_apart b here (shown G w) (m.sp + cell_home the d) (words_apart m.sp (cell_home the c) (cell_home the d) (omega arith) (omega arith) (λ x. ne (omega (arith, x)))) in
        on_with a at2 (with_at s.frame.cells c w) s.temporaries arguments r2 b2 e (off_sp 5 r r2 o (λ x. omega (arith, x))) (off_ra 5 r r2 o (λ x. omega (arith, x))) (off_gp 5 r r2 o (λ x. omega (arith, x))) (small_same r2 f) (word_bytes b here (shown G w) small m.bytes)
        (λ d v ed.
        bool_cases (eqb d c)
        (λ t.
        let is : d ≡ c = grind (arith, nat_tests) in
        let now : Some w ≡ Some v = rw t at ed in
        let same : w ≡ v = cc in
        let there : cell_at the b2 m.sp (file_of r2) c ≡ shown G w = rw res (word_back b here (shown G w) small) in
        (omega (arith, lt, is), subst (λ x. shown G x < 2 ^ 32) same small, ap (cell_at the b2 m.sp (file_of r2)) is ∙ (there ∙ ap (shown G) same)))
        (λ t.
        let before : s.frame.cells d ≡ Some v = rw t at ed in
        let old = m.frame.cells d v before in
        let ne : d ≢ c = grind (arith, nat_tests) in
        (old.0, old.1, if_same (nat_lt d the.resident) (r (kept d)) (r2 (kept d)) _ _ (f d) (far d ne) ∙ old.2)))
        (temporaries_same r2 b2 (λ k lk. off_temporary 5 r r2 o k (λ x. omega (arith, x))) (λ k lo hi. word_apart b here (shown G w) (m.sp + 4 * (k - 8)) (inr (omega (arith, lo, hi))))) sub
        (λ j. bool_cases (nat_lt j the.resident)
        (λ t.
        let ne : j ≢ c = λ x. (let both : nat_lt c the.resident ≡ true = ap (λ y. nat_lt y the.resident) (sym x) ∙ t in cc) in
        rw t (far j ne))
        (λ t. rw t (f j)))
        (λ j side. word_off b here (shown G w) j (⊎_elim (λ x. inr (omega (arith, x))) (λ x. inl (omega (arith, x, lt))) side))

    -- the target's register holds its value
    pub set_register : (d : Target) (q : ℕ) → home_of the d ≡ home.Register q → TargetFits the d → Off q r r2 → r2 q ≡ shown G w → Matched G (set d w (now_at a s.frame.cells s.temporaries arguments)) r2 at2 b
    set_register (target.Temporary k) q eh fit o ew =
        bool_cases (nat_lt k 8)
        (λ t.
        let is : home.Register (10 + k) ≡ home.Register q = rw t at eh in
        let same : q ≡ 10 + k = cc in
        to_temporary k (ltb-true k 8 t) (subst (λ x. Off x r r2) same o) (subst (λ x. r2 x ≡ shown G w) same ew))
        (λ t. let no : home.Frame (4 * (k - 8)) ≡ home.Register q = rw t at eh in cc)
    set_register (target.Cell c) q eh fit o ew =
        bool_cases (nat_lt c the.resident)
        (λ t.
        let is : home.Register (kept c) ≡ home.Register q = rw t at eh in
        let same : q ≡ kept c = cc in
        to_register c fit t (subst (λ x. Off x r r2) same o) (subst (λ x. r2 x ≡ shown G w) same ew))
        (λ t. let no : home.Frame (cell_home the c) ≡ home.Register q = rw t at eh in cc)

    -- the target's word holds its value
    pub set_word : (d : Target) (o : ℕ) → home_of the d ≡ home.Frame o → TargetFits the d → Off 5 r r2 → Matched G (set d w (now_at a s.frame.cells s.temporaries arguments)) r2 at2 (with_word b (m.sp + o) (shown G w))
    set_word (target.Temporary k) o eh fit off =
        bool_cases (nat_lt k 8)
        (λ t. let no : home.Register (10 + k) ≡ home.Frame o = rw t at eh in cc)
        (λ t.
        let is : home.Frame (4 * (k - 8)) ≡ home.Frame o = rw t at eh in
        let same : 4 * (k - 8) ≡ o = cc in
        subst (λ x. Matched G (set (target.Temporary k) w (now_at a s.frame.cells s.temporaries arguments)) r2 at2 (with_word b (m.sp + x) (shown G w))) same (to_low_temporary k (ltb-false k 8 t) fit off))
    set_word (target.Cell c) o eh fit off =
        bool_cases (nat_lt c the.resident)
        (λ t. let no : home.Register (kept c) ≡ home.Frame o = rw t at eh in cc)
        (λ t.
        let is : home.Frame (cell_home the c) ≡ home.Frame o = rw t at eh in
        let same : cell_home the c ≡ o = cc in
        subst (λ x. Matched G (set (target.Cell c) w (now_at a s.frame.cells s.temporaries arguments)) r2 at2 (with_word b (m.sp + x) (shown G w))) same (to_memory c fit t off))

  -- the address of a target's word
  pub home_lies : (d : Target) (o : ℕ) → home_of the d ≡ home.Frame o → TargetFits the d → Lies m.sp o
  home_lies (target.Temporary k) o eh fit =
      bool_cases (nat_lt k 8)
      (λ t. let no : home.Register (10 + k) ≡ home.Frame o = rw t at eh in cc)
      (λ t.
      let is : home.Frame (4 * (k - 8)) ≡ home.Frame o = rw t at eh in
      let same : 4 * (k - 8) ≡ o = cc in
      subst (Lies m.sp) same (temporary_lies the m.sp within k (ltb-false k 8 t) fit))
  home_lies (target.Cell c) o eh fit =
      bool_cases (nat_lt c the.resident)
      (λ t. let no : home.Register (kept c) ≡ home.Frame o = rw t at eh in cc)
      (λ t.
      let is : home.Frame (cell_home the c) ≡ home.Frame o = rw t at eh in
      let same : cell_home the c ≡ o = cc in
      subst (Lies m.sp) same (cell_lies the m.sp within c fit))

  -- a target's register is neither free nor the stack pointer
  pub home_register : (d : Target) (q : ℕ) → home_of the d ≡ home.Register q → 8 ≤ q
  home_register (target.Temporary k) q eh =
      bool_cases (nat_lt k 8)
      (λ t. let is : home.Register (10 + k) ≡ home.Register q = rw t at eh in let same : q ≡ 10 + k = cc in omega (arith, same))
      (λ t. let no : home.Frame (4 * (k - 8)) ≡ home.Register q = rw t at eh in cc)
  home_register (target.Cell c) q eh =
      bool_cases (nat_lt c the.resident)
      (λ t. let is : home.Register (kept c) ≡ home.Register q = rw t at eh in let same : q ≡ kept c = cc in omega (arith, same, kept_above c))
      (λ t. let no : home.Frame (cell_home the c) ≡ home.Register q = rw t at eh in cc)
