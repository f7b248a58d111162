-- The results of operations and conversions, on words.
use Rattle.std.proofs.Common.{◌≡◌, ℕ, suc, ◌+◌, ◌*◌, ◌/◌, ◌%◌, ◌^◌, ◌<◌, ◌≤◌, List, [], ◌∷◌, Bool, true, false, sym, ap, ◌∙◌, subst, arith, eqb}
use Rattle.std.specs.Prelude.{nat_lt, not, bit_and}
use Rattle.std.proofs.lemmas.Bool.{ltb-true, ltb-false}
use Rattle.std.proofs.lemmas.Bool.Decides.{nat_tests}
use Rattle.std.proofs.lemmas.Nat.{and_mask}
use Rattle.rv32.specs.declared.instr.ImmediateOp.TheVariants as immediate_op
use Rattle.rv32.specs.declared.instr.RegisterOp.TheVariants as register_op
use Rattle.rv32.specs.declared.instr.ShiftOp.{ShiftOp}
use Rattle.rv32.specs.declared.instr.ShiftOp.TheVariants as shift_op
use Rattle.rv32.specs.Arithmetic.{operate_of, shift_by, one_if}
use Rattle.rv32.specs.Words.{sign_extended}
use Rattle.select_exec.specs.Standing.{Stands}
use Rattle.csem_events.specs.Events.{Event}
use Rattle.frames_code.specs.declared.code.Conversion.{Conversion}
use Rattle.frames_code.specs.declared.code.Conversion.TheVariants as conversion
use Rattle.frames_code.specs.Run.{converted}
use Rattle.select_exec.specs.Light.{Fixed, Light, Go, reg, with_reg, Comes}
use Rattle.select_exec.proofs.Bridge.{bool_cases}
use Rattle.select_exec.proofs.Words.{reg_is, with_same}
use Rattle.select_exec.proofs.Steps.{comes_by, on_immediate, on_op, on_shift}
use Rattle.select.specs.Selected.{narrow, shifted}
use Rattle.select_correct.specs.Costs.{narrow_cost}
use Rattle.select_correct.specs.Laws.{Anything}
use Rattle.select_correct.proofs.Registers.{Only, only_one, only_then}
use Rattle.select_correct.proofs.Places.{onward}

-- ---- conversions

signed_byte : (a : ℕ) → shift_by shift_op.RightArithmetic (a * 2 ^ 24 % 2 ^ 32) 24 ≡ sign_extended 7 (a % 2 ^ 8)
signed_byte a =
    bool_cases (nat_lt (a * 2 ^ 24 % 2 ^ 32) (2 ^ 31))
    (λ t. let lt : a * 2 ^ 24 % 2 ^ 32 < 2 ^ 31 = ltb-true (a * 2 ^ 24 % 2 ^ 32) (2 ^ 31) t in rw t (omega (arith, lt)))
    (λ t. let ge : 2 ^ 31 ≤ a * 2 ^ 24 % 2 ^ 32 = ltb-false (a * 2 ^ 24 % 2 ^ 32) (2 ^ 31) t in rw t (omega (arith, ge)))

signed_half : (a : ℕ) → shift_by shift_op.RightArithmetic (a * 2 ^ 16 % 2 ^ 32) 16 ≡ sign_extended 15 (a % 2 ^ 16)
signed_half a =
    bool_cases (nat_lt (a * 2 ^ 16 % 2 ^ 32) (2 ^ 31))
    (λ t. let lt : a * 2 ^ 16 % 2 ^ 32 < 2 ^ 31 = ltb-true (a * 2 ^ 16 % 2 ^ 32) (2 ^ 31) t in rw t (omega (arith, lt)))
    (λ t. let ge : 2 ^ 31 ≤ a * 2 ^ 16 % 2 ^ 32 = ltb-false (a * 2 ^ 16 % 2 ^ 32) (2 ^ 31) t in rw t (omega (arith, ge)))

half : (a : ℕ) → a * 2 ^ 16 % 2 ^ 32 / 2 ^ 16 ≡ a % 2 ^ 16
half a = omega arith

truth : (a : ℕ) → one_if (nat_lt 0 a) ≡ one_if (not (eqb a 0))
truth a = grind (arith, nat_tests)

sign_small : (k v : ℕ) → (k ≡ 7) × (v < 2 ^ 8) → sign_extended 7 v < 2 ^ 32
sign_small k v p = omega (arith, p.1)

pub one_small : (t : Bool) → one_if t < 2 ^ 32
one_small true = omega arith
one_small false = omega arith

pub converted_small : (c : Conversion) (a : ℕ) → converted c a < 2 ^ 32
converted_small conversion.ToByte a = omega arith
converted_small conversion.ToSignedByte a = omega arith
converted_small conversion.ToHalf a = omega arith
converted_small conversion.ToSignedHalf a = omega arith
converted_small conversion.ToTruth a = one_small (not (eqb a 0))

module _ (F : Fixed) (env : ℕ → ℕ) (seg : ℕ) (i : List ℕ) (h : List Event) (Q : Light → Type 0) (r b : ℕ → ℕ) (rd : ℕ) (pos : 0 < rd) where
  -- a shift to the left and one to the right
  shifts : {a0 : ℕ} → (n : ℕ) (o : ShiftOp) (q k a w here mid : ℕ) → reg r q ≡ a → shift_by o (a * 2 ^ k % 2 ^ 32) k ≡ w → Stands F.text env seg (shifted shift_op.Left rd q k ∷ shifted o rd rd k ∷ []) here mid
      → ((r2 : ℕ → ℕ) → Only rd r r2 → r2 rd ≡ w → Comes F Anything a0 n (Go r2 mid b i h) Q) → Comes F Anything 1 (suc (suc n)) (Go r here b i h) Q
  shifts {a0} n o q k a w here mid ea ew st next =
      let v = a * 2 ^ k % 2 ^ 32 in
      let r1 = with_reg r rd v in
      let r2 = with_reg r1 rd w in
      let first : shift_by shift_op.Left (reg r q) k ≡ v = ap (λ x. x * 2 ^ k % 2 ^ 32) ea in
      let back : reg r1 rd ≡ v = reg_is r1 rd pos ∙ with_same r rd v pos in
      let second : shift_by o (reg r1 rd) k ≡ w = ap (λ x. shift_by o x k) back ∙ ew in
      let there : here + 4 + 4 ≡ mid = omega (arith, st.1.1, st.2.1.1, st.2.2) in
      let c : Comes F Anything a0 n (Go r2 (here + 4 + 4) b i h) Q = onward F env seg i h Q {a0 = a0} n (here + 4 + 4) mid r2 b there (next r2 (only_then rd r r1 r2 (only_one rd v r) (only_one rd w r1)) (with_same r1 rd w pos)) in
      let c1 : Comes F Anything 1 (suc n) (Go r1 (here + 4) b i h) Q =
      on_shift F Anything Q n r1 (here + 4) b i h tt o rd rd k (ap F.text (sym st.1.1) ∙ st.2.1.0) (subst (λ z. Comes F Anything a0 n (Go (with_reg r1 rd z) (here + 4 + 4) b i h) Q) (sym second) c) in
      on_shift F Anything Q (suc n) r here b i h tt shift_op.Left rd q k st.1.0 (subst (λ z. Comes F Anything 1 (suc n) (Go (with_reg r rd z) (here + 4) b i h) Q) (sym first) c1)

  pub narrows : {a0 : ℕ} → (n : ℕ) (c : Conversion) (q a here mid : ℕ) → reg r q ≡ a → Stands F.text env seg (narrow c rd q) here mid
      → ((r2 : ℕ → ℕ) → Only rd r r2 → r2 rd ≡ converted c a → Comes F Anything a0 n (Go r2 mid b i h) Q) → Comes F Anything 1 (narrow_cost c + n) (Go r here b i h) Q
  narrows {a0} n conversion.ToByte q a here mid ea st next =
      let r2 = with_reg r rd (a % 2 ^ 8) in
      let is : bit_and (reg r q) 255 ≡ a % 2 ^ 8 = ap (λ x. bit_and x 255) ea ∙ and_mask a 8 in
      let there : here + 4 ≡ mid = sym st.1.1 ∙ st.2 in
      comes_by F Anything (suc n) (1 + n) (Go r here b i h) Q (omega arith)
      (on_immediate F Anything Q n r here b i h tt immediate_op.And rd q 255 (a % 2 ^ 8) st.1.0 is
      (onward F env seg i h Q {a0 = a0} n (here + 4) mid r2 b there (next r2 (only_one rd (a % 2 ^ 8) r) (with_same r rd (a % 2 ^ 8) pos))))
  narrows {a0} n conversion.ToSignedByte q a here mid ea st next =
      comes_by F Anything (suc (suc n)) (2 + n) (Go r here b i h) Q (omega arith)
      (shifts {a0 = a0} n shift_op.RightArithmetic q 24 a (sign_extended 7 (a % 2 ^ 8)) here mid ea (signed_byte a) st next)
  narrows {a0} n conversion.ToHalf q a here mid ea st next =
      comes_by F Anything (suc (suc n)) (2 + n) (Go r here b i h) Q (omega arith)
      (shifts {a0 = a0} n shift_op.Right q 16 a (a % 2 ^ 16) here mid ea (half a) st next)
  narrows {a0} n conversion.ToSignedHalf q a here mid ea st next =
      comes_by F Anything (suc (suc n)) (2 + n) (Go r here b i h) Q (omega arith)
      (shifts {a0 = a0} n shift_op.RightArithmetic q 16 a (sign_extended 15 (a % 2 ^ 16)) here mid ea (signed_half a) st next)
  narrows {a0} n conversion.ToTruth q a here mid ea st next =
      let w = one_if (not (eqb a 0)) in
      let r2 = with_reg r rd w in
      let is : operate_of register_op.LessUnsigned (reg r 0) (reg r q) ≡ w = ap (λ x. one_if (nat_lt 0 x)) ea ∙ truth a in
      let there : here + 4 ≡ mid = sym st.1.1 ∙ st.2 in
      let c : Comes F Anything a0 n (Go r2 (here + 4) b i h) Q = onward F env seg i h Q {a0 = a0} n (here + 4) mid r2 b there (next r2 (only_one rd w r) (with_same r rd w pos)) in
      comes_by F Anything (suc n) (1 + n) (Go r here b i h) Q (omega arith)
      (on_op F Anything Q n r here b i h tt register_op.LessUnsigned rd 0 q st.1.0 (subst (λ z. Comes F Anything a0 n (Go (with_reg r rd z) (here + 4) b i h) Q) (sym is) c))
