-- Running the items that multiply an index by the size of an element.
use Rattle.std.proofs.Common.{◌≡◌, ◌≢◌, ℕ, suc, ◌+◌, ◌*◌, ◌%◌, ◌^◌, ◌<◌, ◌&&◌, List, [], ◌∷◌, Bool, true, false, Option, Some, None, refl, sym, ap, ◌∙◌, subst, arith, eqb}
use Rattle.std.specs.Prelude.{if◌then◌else◌, ◌==◌, nat_lt}
use Rattle.std.specs.Int.{w32, trailing_zeros}
use Rattle.std.proofs.lemmas.Bool.{eqb-true}
use Rattle.std.proofs.lemmas.Bool.Decides.{nat_tests}
use Rattle.rv32.specs.declared.instr.RegisterOp.TheVariants as register_op
use Rattle.rv32.specs.declared.instr.ShiftOp.TheVariants as shift_op
use Rattle.rv32.specs.Arithmetic.{operate_of, shift_by}
use Rattle.select_exec.specs.Standing.{Stands}
use Rattle.csem_events.specs.Events.{Event}
use Rattle.select_exec.specs.Light.{Fixed, Light, Go, reg, with_reg, Comes}
use Rattle.select_exec.proofs.Bridge.{bool_cases}
use Rattle.select_exec.proofs.Words.{reg_is, with_other}
use Rattle.select_exec.proofs.Steps.{comes_by, on_shift, on_op}
use Rattle.select_exec.proofs.Standing.{stands_parts}
use Rattle.select.specs.Selected.{set_to, operate_on, shifted, log2_of, shift_or_multiply, scale, scaled_in}
use Rattle.select_correct.specs.Costs.{set_cost, product_cost, scale_cost}
use Rattle.select_correct.specs.Laws.{Anything}
use Rattle.select_correct.proofs.Registers.{Only, Off, only_none, only_one, only_reg}
use Rattle.select_correct.proofs.Places.{onward, sets}

-- registers that agree but for x6 and x7
pub record Scaled (r r2 : ℕ → ℕ) : Type 0 where
  pub each : (k : ℕ) → k ≢ 6 → k ≢ 7 → r2 k ≡ r k

pub scaled_off : (r r1 r2 : ℕ → ℕ) → Off 5 r r1 → Scaled r1 r2 → Off 5 r r2
scaled_off r r1 r2 o q = record { each = λ k e5 e6 e7 ed. q.each k e6 e7 ∙ o.each k e5 e6 e7 ed }

pub scaled_reg : (q : ℕ) (r r2 : ℕ → ℕ) → Scaled r r2 → q ≢ 6 → q ≢ 7 → reg r2 q ≡ reg r q
scaled_reg q r r2 o e6 e7 = bool_cases (eqb q 0) (λ t. rw t refl) (λ t. rw t (o.each q e6 e7))

one_scaled : (r r2 : ℕ → ℕ) → Only 6 r r2 → Scaled r r2
one_scaled r r2 only = record { each = λ k e6 e7. only.each k e6 }

two_scaled : (w : ℕ) (r r1 : ℕ → ℕ) → Only 7 r r1 → Scaled r (with_reg r1 6 w)
two_scaled w r r1 only = record { each = λ k e6 e7. with_other r1 6 w k e6 ∙ only.each k e7 }

-- a size is 2 to the power of its logarithm
chosen_power : (j k size : ℕ) (t u : Bool) → (2 ^ j == size) ≡ u → (if t && u then Some j else None) ≡ Some k → 2 ^ k ≡ size
chosen_power j k size true true is e =
    let one : Some j ≡ Some k = e in
    let same : j ≡ k = cc in
    ap (λ n. 2 ^ n) (sym same) ∙ eqb-true (2 ^ j) size is
chosen_power j k size true false is e = let no : None ≡ Some k = e in cc
chosen_power j k size false u is e = let no : None ≡ Some k = e in cc

log2_is : (size k : ℕ) → log2_of size ≡ Some k → 2 ^ k ≡ size
log2_is size k e = let j = trailing_zeros w32 size in chosen_power j k size (nat_lt j 32) (2 ^ j == size) refl e

module _ (F : Fixed) (env : ℕ → ℕ) (seg : ℕ) (i : List ℕ) (h : List Event) (Q : Light → Type 0) (r b : ℕ → ℕ) where
  -- by a shift
  shifts_one : (n q x k size here mid : ℕ) → reg r q ≡ x → x * 2 ^ k % 2 ^ 32 ≡ x * size % 2 ^ 32 → scaled_in q size ≡ 6 → Stands F.text env seg (shifted shift_op.Left 6 q k ∷ []) here mid
      → ((r2 : ℕ → ℕ) → Only 6 r r2 → reg r2 (scaled_in q size) ≡ x * size % 2 ^ 32 → Comes F Anything 1 n (Go r2 mid b i h) Q) → Comes F Anything 1 (suc n) (Go r here b i h) Q
  shifts_one n q x k size here mid ex ew in_six st next =
      let w = x * size % 2 ^ 32 in
      let r2 = with_reg r 6 w in
      let is : shift_by shift_op.Left (reg r q) k ≡ w = ap (λ y. y * 2 ^ k % 2 ^ 32) ex ∙ ew in
      let held : reg r2 (scaled_in q size) ≡ w = ap (reg r2) in_six in
      let there : here + 4 ≡ mid = sym st.1.1 ∙ st.2 in
      let c : Comes F Anything 1 n (Go r2 (here + 4) b i h) Q = onward F env seg i h Q {a0 = 1} n (here + 4) mid r2 b there (next r2 (only_one 6 w r) held) in
      on_shift F Anything Q n r here b i h tt shift_op.Left 6 q k st.1.0 (subst (λ z. Comes F Anything 1 n (Go (with_reg r 6 z) (here + 4) b i h) Q) (sym is) c)

  -- by a shift, or by a product with the size
  multiplies : (o : Option ℕ) (n q x size here mid : ℕ) → log2_of size ≡ o → q ≢ 7 → size < 2 ^ 32 → scaled_in q size ≡ 6 → reg r q ≡ x → Stands F.text env seg (shift_or_multiply o q size) here mid
      → ((r2 : ℕ → ℕ) → Scaled r r2 → reg r2 (scaled_in q size) ≡ x * size % 2 ^ 32 → Comes F Anything 1 n (Go r2 mid b i h) Q) → Comes F Anything 1 (product_cost o size + n) (Go r here b i h) Q
  multiplies (Some k) n q x size here mid e ne fit in_six ex st next =
      comes_by F Anything (suc n) (1 + n) (Go r here b i h) Q (omega arith)
      (shifts_one n q x k size here mid ex (ap (λ y. x * y % 2 ^ 32) (log2_is size k e)) in_six st (λ r2 only. next r2 (one_scaled r r2 only)))
  multiplies None n q x size here mid e ne fit in_six ex st next =
      let parts = stands_parts F.text env seg (set_to 7 size ∷ []) (operate_on register_op.Mul 6 q 7 ∷ []) here mid st in
      comes_by F Anything (set_cost size + suc n) (set_cost size + 1 + n) (Go r here b i h) Q (omega arith)
      (sets F env seg i h Q {a0 = 1} (suc n) 7 size here parts.0 r b (omega arith) fit parts.1 (λ r1 only got.
      let w = x * size % 2 ^ 32 in
      let r2 = with_reg r1 6 w in
      let left : reg r1 q ≡ x = only_reg 7 q r r1 only ne ∙ ex in
      let right : reg r1 7 ≡ size = reg_is r1 7 (omega arith) ∙ got in
      let is : operate_of register_op.Mul (reg r1 q) (reg r1 7) ≡ w = ap (λ y. y * reg r1 7 % 2 ^ 32) left ∙ ap (λ y. x * y % 2 ^ 32) right in
      let held : reg r2 (scaled_in q size) ≡ w = ap (reg r2) in_six in
      let there : parts.0 + 4 ≡ mid = sym parts.2.1.1 ∙ parts.2.2 in
      let c : Comes F Anything 1 n (Go r2 (parts.0 + 4) b i h) Q = onward F env seg i h Q {a0 = 1} n (parts.0 + 4) mid r2 b there (next r2 (two_scaled w r r1 only) held) in
      on_op F Anything Q n r1 parts.0 b i h tt register_op.Mul 6 q 7 parts.2.1.0
      (subst (λ z. Comes F Anything 1 n (Go (with_reg r1 6 z) (parts.0 + 4) b i h) Q) (sym is) c)))

  -- the index times the size
  pub scales : (n q x size here mid : ℕ) → q ≢ 7 → x < 2 ^ 32 → size < 2 ^ 32 → reg r q ≡ x → Stands F.text env seg (scale q size) here mid
      → ((r2 : ℕ → ℕ) → Scaled r r2 → reg r2 (scaled_in q size) ≡ x * size % 2 ^ 32 → Comes F Anything 1 n (Go r2 mid b i h) Q) → Comes F Anything 1 (scale_cost size + n) (Go r here b i h) Q
  scales n q x size here mid ne small fit ex st next =
      bool_cases (eqb size 1)
      (λ t.
      let one : size ≡ 1 = grind (arith, nat_tests) in
      let now : here ≡ mid = rw t at st in
      let product : x * size % 2 ^ 32 ≡ x = ap (λ y. x * y % 2 ^ 32) one ∙ omega (arith, small) in
      let held : reg r (scaled_in q size) ≡ x * size % 2 ^ 32 = rw t (ex ∙ sym product) in
      comes_by F Anything n (scale_cost size + n) (Go r here b i h) Q (omega arith) (onward F env seg i h Q {a0 = 1} n here mid r b now (next r (record { each = λ k e6 e7. refl }) held)))
      (λ t.
      let st1 : Stands F.text env seg (shift_or_multiply (log2_of size) q size) here mid = rw t at st in
      let in_six : scaled_in q size ≡ 6 = rw t refl in
      let count : scale_cost size ≡ product_cost (log2_of size) size = rw t refl in
      subst (λ k. Comes F Anything 1 (k + n) (Go r here b i h) Q) (sym count) (multiplies (log2_of size) n q x size here mid refl ne fit in_six ex st1 next))

  -- the index times a size that is a power of two
  pub shifts : (n q x k size here mid : ℕ) → x < 2 ^ 32 → log2_of size ≡ Some k → reg r q ≡ x → Stands F.text env seg (scale q size) here mid
      → ((r2 : ℕ → ℕ) → Only 6 r r2 → reg r2 (scaled_in q size) ≡ x * size % 2 ^ 32 → Comes F Anything 1 n (Go r2 mid b i h) Q) → Comes F Anything 1 (scale_cost size + n) (Go r here b i h) Q
  shifts n q x k size here mid small e ex st next =
      bool_cases (eqb size 1)
      (λ t.
      let one : size ≡ 1 = grind (arith, nat_tests) in
      let now : here ≡ mid = rw t at st in
      let product : x * size % 2 ^ 32 ≡ x = ap (λ y. x * y % 2 ^ 32) one ∙ omega (arith, small) in
      let held : reg r (scaled_in q size) ≡ x * size % 2 ^ 32 = rw t (ex ∙ sym product) in
      comes_by F Anything n (scale_cost size + n) (Go r here b i h) Q (omega arith) (onward F env seg i h Q {a0 = 1} n here mid r b now (next r (only_none 6 r) held)))
      (λ t.
      let some : Stands F.text env seg (shift_or_multiply (log2_of size) q size) here mid = rw t at st in
      let st1 : Stands F.text env seg (shift_or_multiply (Some k) q size) here mid = subst (λ o. Stands F.text env seg (shift_or_multiply o q size) here mid) e some in
      let in_six : scaled_in q size ≡ 6 = rw t refl in
      let chosen : scale_cost size ≡ product_cost (log2_of size) size = rw t refl in
      let count : scale_cost size ≡ 1 = chosen ∙ ap (λ o. product_cost o size) e in
      comes_by F Anything (suc n) (scale_cost size + n) (Go r here b i h) Q (omega (arith, count))
      (shifts_one n q x k size here mid ex (ap (λ y. x * y % 2 ^ 32) (log2_is size k e)) in_six st1 next))
