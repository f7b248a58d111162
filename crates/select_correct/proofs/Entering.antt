-- The homes of resident words take the caller's registers, and give them back; frames open and close.
use Rattle.std.proofs.Common.{◌≡◌, ◌≢◌, ◌⊎◌, inl, inr, ⊎_elim, ℕ, zero, suc, ◌+◌, ◌-◌, ◌%◌, ◌^◌, ◌<◌, ◌≤◌, List, [], ◌∷◌, ◌++◌, refl, sym, ap, ◌∙◌, subst, arith, eqb}
use Rattle.std.specs.Prelude.{nat_lt}
use Rattle.std.proofs.lemmas.Bool.Decides.{nat_tests}
use Rattle.rv32.specs.declared.instr.ImmediateOp.TheVariants as immediate_op
use Rattle.rv32.specs.declared.instr.RegisterOp.TheVariants as register_op
use Rattle.rv32.specs.Arithmetic.{operate_of}
use Rattle.rv32.specs.Space.{word_at}
use Rattle.select_exec.specs.Standing.{Stands}
use Rattle.csem_events.specs.Events.{Event}
use Rattle.frames_code.specs.Code.{Function, cell_home, frame_bytes}
use Rattle.select_exec.specs.Light.{Fixed, Light, Go, reg, with_reg, with_word, Comes}
use Rattle.select_exec.proofs.Bridge.{bool_cases}
use Rattle.select_exec.proofs.Words.{reg_is, with_other, word_off, word_same, word_apart, word_back, word_bytes}
use Rattle.select_exec.proofs.Steps.{comes_by, comes_some, on_immediate, on_op}
use Rattle.select_exec.proofs.Standing.{stands_parts}
use Rattle.select.specs.Selected.{add_to, operate_on, load_constant, kept, calls, change_sp, return_home, keep_return, take_return, saves, restores, store_word, load_word, entry}
use Rattle.select_correct.specs.Matches.{Small, file_of, return_at}
use Rattle.select_correct.specs.Costs.{constant_cost, frame_cost, word_cost, saved_cost, opening_cost, return_cost}
use Rattle.select_correct.specs.Laws.{Anything}
use Rattle.select_correct.proofs.Registers.{Only, only_none, only_then, kept_above, kept_once}
use Rattle.select_correct.proofs.Waiting.{if_same}
use Rattle.select_correct.proofs.Places.{Open, onward, loads_constant, loads_word, stores_word}
use Rattle.select_correct.proofs.Fits.{Within, frame_room, cell_lies, return_lies}

-- the homes of the first n words have taken the registers
pub record Saved (f : Function) (sp : ℕ) (r : ℕ → ℕ) (n : ℕ) (b b2 : ℕ → ℕ) : Type 0 where
  pub given : (j : ℕ) → j < n → word_at b2 (sp + cell_home f j) ≡ r (kept j)
  pub off : (k : ℕ) → (k < sp + cell_home f 0) ⊎ (sp + cell_home f n ≤ k) → b2 k ≡ b k
  pub bytes : (k : ℕ) → b2 k < 2 ^ 8

-- the registers of the first n words were taken from their homes
pub record Restored (f : Function) (sp : ℕ) (b : ℕ → ℕ) (n : ℕ) (r r2 : ℕ → ℕ) : Type 0 where
  pub given : (j : ℕ) → j < n → r2 (kept j) ≡ word_at b (sp + cell_home f j)
  pub others : (q : ℕ) → ((j : ℕ) → j < n → q ≢ kept j) → r2 q ≡ r q

-- the address to return to is where it is while the function runs
pub record Kept (f : Function) (sp ra : ℕ) (b b2 : ℕ → ℕ) (r2 : ℕ → ℕ) : Type 0 where
  pub ra_is : return_at f b2 sp (r2 1) ≡ ra
  pub off : (k : ℕ) → (k < sp + return_home f) ⊎ (sp + return_home f + 4 ≤ k) → b2 k ≡ b k
  pub bytes : (k : ℕ) → b2 k < 2 ^ 8

-- the stack pointer has changed
pub record Resized (sp : ℕ) (r r2 : ℕ → ℕ) : Type 0 where
  pub sp_is : r2 2 ≡ sp
  pub each : (k : ℕ) → k ≢ 2 → k ≢ 7 → r2 k ≡ r k

-- a frame at sp has opened
pub record Opened (f : Function) (sp : ℕ) (r b r2 b2 : ℕ → ℕ) : Type 0 where
  pub sp_is : r2 2 ≡ sp
  pub file_stays : (j : ℕ) → r2 (kept j) ≡ r (kept j)
  pub temporaries_stay : (k : ℕ) → k < 8 → r2 (10 + k) ≡ r (10 + k)
  pub homes_are : (j : ℕ) → j < f.resident → word_at b2 (sp + cell_home f j) ≡ r (kept j)
  pub ra_is : return_at f b2 sp (r2 1) ≡ r 1
  pub gp_stays : r2 3 ≡ r 3
  pub off : (k : ℕ) → (k < sp) ⊎ (sp + frame_bytes f ≤ k) → b2 k ≡ b k
  pub bytes : (k : ℕ) → b2 k < 2 ^ 8

module _ (F : Fixed) (env : ℕ → ℕ) (seg : ℕ) (i : List ℕ) (h : List Event) (Q : Light → Type 0) where
  -- the stack pointer changes
  pub changes_sp : {a0 : ℕ} → (n by sp sp2 here mid : ℕ) (r b : ℕ → ℕ) → r 2 ≡ sp → (sp + by) % 2 ^ 32 ≡ sp2 → Stands F.text env seg (change_sp by) here mid
      → ((r2 : ℕ → ℕ) → Resized sp2 r r2 → Comes F Anything a0 n (Go r2 mid b i h) Q) → Comes F Anything 1 (frame_cost by + n) (Go r here b i h) Q
  changes_sp {a0} n by sp sp2 here mid r b e2 sum st next =
      bool_cases (nat_lt ((by + 0x800) % 2 ^ 32) 0x1000)
      (λ t.
      let one : Stands F.text env seg (add_to 2 2 by ∷ []) here mid = rw t at st in
      let r2 = with_reg r 2 sp2 in
      let there : here + 4 ≡ mid = sym one.1.1 ∙ one.2 in
      let is : (r 2 + by) % 2 ^ 32 ≡ sp2 = ap (λ x. (x + by) % 2 ^ 32) e2 ∙ sum in
      let count : frame_cost by ≡ 1 = rw t refl in
      comes_by F Anything (suc n) (frame_cost by + n) (Go r here b i h) Q (omega (arith, count))
      (on_immediate F Anything Q n r here b i h tt immediate_op.Add 2 2 by sp2 one.1.0 is
      (onward F env seg i h Q {a0 = a0} n (here + 4) mid r2 b there (next r2 (record { sp_is = refl; each = λ k n2 n7. with_other r 2 sp2 k n2 })))))
      (λ t.
      let long : Stands F.text env seg (load_constant 7 by ∷ operate_on register_op.Add 2 2 7 ∷ []) here mid = rw t at st in
      let two = stands_parts F.text env seg (load_constant 7 by ∷ []) (operate_on register_op.Add 2 2 7 ∷ []) here mid long in
      let r1 = with_reg r 7 by in
      let r2 = with_reg r1 2 sp2 in
      let is : operate_of register_op.Add (reg r1 2) (reg r1 7) ≡ sp2 = ap (λ x. (x + by) % 2 ^ 32) e2 ∙ sum in
      let there : two.0 + 4 ≡ mid = sym two.2.1.1 ∙ two.2.2 in
      let c : Comes F Anything a0 n (Go r2 (two.0 + 4) b i h) Q = onward F env seg i h Q {a0 = a0} n (two.0 + 4) mid r2 b there (next r2 (record { sp_is = refl; each = λ k n2 n7. with_other r1 2 sp2 k n2 ∙ with_other r 7 by k n7 })) in
      let count : frame_cost by ≡ constant_cost by + 1 = rw t refl in
      comes_by F Anything (constant_cost by + suc n) (frame_cost by + n) (Go r here b i h) Q (omega (arith, count))
      (loads_constant F env seg i h Q {a0 = 1} (suc n) 7 by here two.0 r b (omega arith) two.1
      (on_op F Anything Q n r1 two.0 b i h tt register_op.Add 2 2 7 two.2.1.0
      (subst (λ z. Comes F Anything a0 n (Go (with_reg r1 2 z) (two.0 + 4) b i h) Q) (sym is) c))))

  module _ (f : Function) (sp : ℕ) {floor : ℕ} (win : Within floor f sp) (stack : Open F sp) where
    pub saves_run : (r : ℕ → ℕ) → r 2 ≡ sp → Small (file_of r) → (b : ℕ → ℕ) → ((k : ℕ) → b k < 2 ^ 8) → (n : ℕ) → n ≤ f.cells → (k here e : ℕ) → Stands F.text env seg (saves f n) here e
        → ((r2 b2 : ℕ → ℕ) → Only 7 r r2 → Saved f sp r n b b2 → Comes F Anything 0 k (Go r2 e b2 i h) Q) → Comes F Anything 0 (saved_cost f n + k) (Go r here b i h) Q
    saves_run r e2 small b bytes zero le k here e st next =
        let c = next r b (only_none 7 r) (record { given = λ j lt. absurd (omega (arith, lt)); off = λ j side. refl; bytes = bytes }) in
        comes_by F Anything k (0 + k) (Go r here b i h) Q (omega arith) (onward F env seg i h Q {a0 = 0} k here e r b st c)
    saves_run r e2 small b bytes (suc n) le k here e st next =
        let o = cell_home f n in
        let w = r (kept n) in
        let parts = stands_parts F.text env seg (saves f n) (store_word (kept n) o) here e st in
        let lies = cell_lies f sp win n (omega (arith, le)) in
        comes_by F Anything (saved_cost f n + (word_cost o + k)) (saved_cost f (suc n) + k) (Go r here b i h) Q (omega arith)
        (saves_run r e2 small b bytes n (omega (arith, le)) (word_cost o + k) here parts.0 parts.1 (λ r1 b1 only1 s.
        let above = kept_above n in
        let held : reg r1 (kept n) ≡ w = reg_is r1 (kept n) (omega (arith, above)) ∙ only1.each (kept n) (λ x. omega (arith, x, above)) in
        let sp1 : r1 2 ≡ sp = only1.each 2 (λ x. omega (arith, x)) ∙ e2 in
        let b2 = with_word b1 (sp + o) w in
        comes_some F Anything (word_cost o + k) (Go r1 parts.0 b1 i h) Q
        (stores_word F env seg i h Q {a0 = 0} k (kept n) o sp w parts.0 e r1 b1 stack (λ x. omega (arith, x, above)) sp1 lies held parts.2 (λ r2 only2.
        next r2 b2 (only_then 7 r r1 r2 only1 only2) (record {
          given = λ j lt. bool_cases (eqb j n)
              (λ t.
              let is : j ≡ n = grind (arith, nat_tests) in
              subst (λ x. word_at b2 (sp + cell_home f x) ≡ r (kept x)) (sym is) (word_back b1 (sp + o) w (small n)))
              (λ t.
              let ne : j ≢ n = grind (arith, nat_tests) in
              let less : j < n = omega (arith, lt, ne) in
              word_apart b1 (sp + o) w (sp + cell_home f j) (inr (omega (arith, less))) ∙ s.given j less);
          off = λ j side.
              word_off b1 (sp + o) w j (⊎_elim (λ lt. inr (omega (arith, lt))) (λ ge. inl (omega (arith, ge))) side) ∙ s.off j (⊎_elim (λ lt. inl lt) (λ ge. inr (omega (arith, ge))) side);
          bytes = word_bytes b1 (sp + o) w (small n) s.bytes;
        })))))

    pub restores_run : (r : ℕ → ℕ) → r 2 ≡ sp → (b : ℕ → ℕ) → (n : ℕ) → n ≤ f.cells → (k here e : ℕ) → Stands F.text env seg (restores f n) here e
        → ((r2 : ℕ → ℕ) → Restored f sp b n r r2 → Comes F Anything 1 k (Go r2 e b i h) Q) → Comes F Anything 1 (saved_cost f n + k) (Go r here b i h) Q
    restores_run r e2 b zero le k here e st next =
        let c = next r (record { given = λ j lt. absurd (omega (arith, lt)); others = λ q ne. refl }) in
        comes_by F Anything k (0 + k) (Go r here b i h) Q (omega arith) (onward F env seg i h Q {a0 = 1} k here e r b st c)
    restores_run r e2 b (suc n) le k here e st next =
        let o = cell_home f n in
        let w = word_at b (sp + o) in
        let parts = stands_parts F.text env seg (restores f n) (load_word (kept n) o) here e st in
        let lies = cell_lies f sp win n (omega (arith, le)) in
        let above = kept_above n in
        comes_by F Anything (saved_cost f n + (word_cost o + k)) (saved_cost f (suc n) + k) (Go r here b i h) Q (omega arith)
        (restores_run r e2 b n (omega (arith, le)) (word_cost o + k) here parts.0 parts.1 (λ r1 s.
        let sp1 : r1 2 ≡ sp = s.others 2 (λ j lt x. omega (arith, x, kept_above j)) ∙ e2 in
        loads_word F env seg i h Q {a0 = 1} k (kept n) o sp w parts.0 e r1 b stack (omega (arith, above)) (λ x. omega (arith, x, above)) sp1 lies refl parts.2 (λ r2 only held.
        next r2 (record {
          given = λ j lt. bool_cases (eqb j n)
              (λ t.
              let is : j ≡ n = grind (arith, nat_tests) in
              subst (λ x. r2 (kept x) ≡ word_at b (sp + cell_home f x)) (sym is) held)
              (λ t.
              let ne : j ≢ n = grind (arith, nat_tests) in
              only.each (kept j) (λ x. ne (kept_once j n x)) ∙ s.given j (omega (arith, lt, ne)));
          others = λ q ne. only.each q (ne n (omega arith)) ∙ s.others q (λ j lt. ne j (omega (arith, lt)));
        }))))

    -- where the function calls, ra is put into the frame ..
    keeps_return : (r b : ℕ → ℕ) → r 2 ≡ sp → r 1 < 2 ^ 32 → ((k : ℕ) → b k < 2 ^ 8) → (k here e : ℕ) → Stands F.text env seg (keep_return f) here e
        → ((r2 b2 : ℕ → ℕ) → Only 7 r r2 → Kept f sp (r 1) b b2 r2 → Comes F Anything 0 k (Go r2 e b2 i h) Q) → Comes F Anything 0 (return_cost f + k) (Go r here b i h) Q
    keeps_return r b e2 small bytes k here e st next =
        let o = return_home f in
        bool_cases (calls f.code)
        (λ t.
        let store : Stands F.text env seg (store_word 1 o) here e = rw t at st in
        let b2 = with_word b (sp + o) (r 1) in
        let count : return_cost f ≡ word_cost o = rw t refl in
        comes_by F Anything (word_cost o + k) (return_cost f + k) (Go r here b i h) Q (omega (arith, count))
        (comes_some F Anything (word_cost o + k) (Go r here b i h) Q
        (stores_word F env seg i h Q {a0 = 0} k 1 o sp (r 1) here e r b stack (λ x. omega (arith, x)) e2 (return_lies f sp win) refl store (λ r2 only.
        next r2 b2 only (record {
          ra_is = rw t (word_back b (sp + o) (r 1) small);
          off = λ j side. word_off b (sp + o) (r 1) j (⊎_elim (λ lt. inr (omega (arith, lt))) (λ ge. inl (omega (arith, ge))) side);
          bytes = word_bytes b (sp + o) (r 1) small bytes;
        })))))
        (λ t.
        let nothing : Stands F.text env seg [] here e = rw t at st in
        comes_by F Anything k (return_cost f + k) (Go r here b i h) Q (omega arith)
        (onward F env seg i h Q {a0 = 0} k here e r b nothing (next r b (only_none 7 r) (record { ra_is = rw t refl; off = λ j side. refl; bytes = bytes }))))

    -- .. and taken from it
    pub takes_return : (r b : ℕ → ℕ) → r 2 ≡ sp → (k here e : ℕ) → Stands F.text env seg (take_return f) here e
        → ((r2 : ℕ → ℕ) → Only 1 r r2 → r2 1 ≡ return_at f b sp (r 1) → Comes F Anything 1 k (Go r2 e b i h) Q) → Comes F Anything 1 (return_cost f + k) (Go r here b i h) Q
    takes_return r b e2 k here e st next =
        let o = return_home f in
        bool_cases (calls f.code)
        (λ t.
        let load : Stands F.text env seg (load_word 1 o) here e = rw t at st in
        let is : return_at f b sp (r 1) ≡ word_at b (sp + o) = rw t refl in
        let count : return_cost f ≡ word_cost o = rw t refl in
        comes_by F Anything (word_cost o + k) (return_cost f + k) (Go r here b i h) Q (omega (arith, count))
        (loads_word F env seg i h Q {a0 = 1} k 1 o sp (word_at b (sp + o)) here e r b stack (omega arith) (λ x. omega (arith, x)) e2 (return_lies f sp win) refl load (λ r2 only held. next r2 only (held ∙ sym is))))
        (λ t.
        let nothing : Stands F.text env seg [] here e = rw t at st in
        let is : return_at f b sp (r 1) ≡ r 1 = rw t refl in
        comes_by F Anything k (return_cost f + k) (Go r here b i h) Q (omega arith) (onward F env seg i h Q {a0 = 1} k here e r b nothing (next r (only_none 1 r) (sym is))))

    -- the entry of a function
    pub enters : (base here e : ℕ) (r b : ℕ → ℕ) → f.resident ≤ f.cells → sp + frame_bytes f ≡ base → base ≤ 2 ^ 31 → frame_bytes f ≤ 2 ^ 24 → r 2 ≡ base → Small (file_of r) → r 1 < 2 ^ 32 → ((k : ℕ) → b k < 2 ^ 8) → Stands F.text env seg (entry f) here e
        → ((r2 b2 : ℕ → ℕ) → Opened f sp r b r2 b2 → Comes F Anything 0 0 (Go r2 e b2 i h) Q) → Comes F Anything 1 (opening_cost f) (Go r here b i h) Q
    enters base here e r b all up top short e2 small ra bytes st next =
        let by = 2 ^ 32 - frame_bytes f in
        let o = return_home f in
        let room = frame_room f in
        let one = stands_parts F.text env seg (change_sp by) (keep_return f ++ saves f f.resident) here e st in
        let two = stands_parts F.text env seg (keep_return f) (saves f f.resident) one.0 e one.2 in
        let count = saved_cost f f.resident + 0 in
        comes_by F Anything (frame_cost by + (return_cost f + count)) (opening_cost f) (Go r here b i h) Q (omega arith)
        (changes_sp {a0 = 0} (return_cost f + count) by base sp here one.0 r b e2 (omega (arith, up, top, short, win.low)) one.1 (λ r1 z.
        let ra1 : r1 1 ≡ r 1 = z.each 1 (λ x. omega (arith, x)) (λ x. omega (arith, x)) in
        keeps_return r1 b z.sp_is (omega (arith, ra, ra1)) bytes count one.0 two.0 two.1 (λ r2 b1 only q.
        let sp2 : r2 2 ≡ sp = only.each 2 (λ x. omega (arith, x)) ∙ z.sp_is in
        let kept2 : (j : ℕ) → r2 (kept j) ≡ r (kept j) = λ j. only.each (kept j) (λ x. omega (arith, x, kept_above j)) ∙ z.each (kept j) (λ x. omega (arith, x, kept_above j)) (λ x. omega (arith, x, kept_above j)) in
        saves_run r2 sp2 (λ j. subst (λ x. x < 2 ^ 32) (sym (kept2 j)) (small j)) b1 q.bytes f.resident all 0 two.0 e two.2 (λ r3 b3 only3 s.
        let stays : return_at f b3 sp (r3 1) ≡ return_at f b1 sp (r2 1) =
        if_same (calls f.code) _ _ (r2 1) (r3 1) (word_same b1 b3 (sp + o) (λ k lo hi. s.off k (inr (omega (arith, lo, room, all))))) (only3.each 1 (λ x. omega (arith, x))) in
        next r3 b3 (record {
          sp_is = only3.each 2 (λ x. omega (arith, x)) ∙ sp2;
          file_stays = λ j. only3.each (kept j) (λ x. omega (arith, x, kept_above j)) ∙ kept2 j;
          temporaries_stay = λ k lt. only3.each (10 + k) (λ x. omega (arith, x)) ∙ (only.each (10 + k) (λ x. omega (arith, x)) ∙ z.each (10 + k) (λ x. omega (arith, x)) (λ x. omega (arith, x)));
          homes_are = λ j lt. s.given j lt ∙ kept2 j;
          ra_is = stays ∙ (q.ra_is ∙ ra1);
          gp_stays = only3.each 3 (λ x. omega (arith, x)) ∙ (only.each 3 (λ x. omega (arith, x)) ∙ z.each 3 (λ x. omega (arith, x)) (λ x. omega (arith, x)));
          off = λ k side. s.off k (⊎_elim (λ lt. inl (omega (arith, lt))) (λ ge. inr (omega (arith, ge, room, all))) side) ∙ q.off k (⊎_elim (λ lt. inl (omega (arith, lt, room))) (λ ge. inr (omega (arith, ge, room))) side);
          bytes = s.bytes;
        })))))
