-- Running an operation on a register and a second operand: a register, a word of the frame, or a constant, which may be in the instruction.
use Rattle.std.proofs.Common.{◌≡◌, ◌≢◌, ℕ, suc, ◌+◌, ◌-◌, ◌%◌, ◌^◌, ◌<◌, List, ◌∷◌, ◌++◌, Option, Some, None, Bool, true, false, refl, sym, ap, ◌∙◌, subst, arith, eqb}
use Rattle.std.specs.Prelude.{nat_lt, not, bit_xor, bit_or, bit_and, int_lt, if◌then◌else◌}
use Rattle.rv32.specs.declared.instr.Instr.{Instr}
use Rattle.rv32.specs.declared.instr.Instr.TheVariants as instr
use Rattle.rv32.specs.declared.instr.ImmediateOp.{ImmediateOp}
use Rattle.rv32.specs.declared.instr.ImmediateOp.TheVariants as immediate_op
use Rattle.rv32.specs.declared.instr.RegisterOp.{RegisterOp}
use Rattle.rv32.specs.declared.instr.RegisterOp.TheVariants as register_op
use Rattle.rv32.specs.declared.instr.ShiftOp.{ShiftOp}
use Rattle.rv32.specs.declared.instr.ShiftOp.TheVariants as shift_op
use Rattle.rv32.specs.Arithmetic.{operate_of, operate_immediate_of, shift_by, signed, one_if}
use Rattle.select_exec.specs.Standing.{Stands}
use Rattle.csem_events.specs.Events.{Event}
use Rattle.frames_code.specs.declared.code.Operation.{Operation}
use Rattle.frames_code.specs.declared.code.Operation.TheVariants as operation
use Rattle.frames_code.specs.Run as flat
use Rattle.select_exec.specs.Light.{Fixed, Light, Go, reg, with_reg, Comes}
use Rattle.select_exec.proofs.Words.{reg_is, with_same}
use Rattle.select_exec.proofs.Steps.{comes_by, comes_some, on_immediate, on_op, on_shift}
use Rattle.select_exec.proofs.Standing.{stands_parts}
use Rattle.select.specs.declared.places.Source.{Source}
use Rattle.select.specs.declared.places.Source.TheVariants as source
use Rattle.select.specs.Selected.{machine_of, ending, operate, short_form, shift_form, constant_form, form_or, combine, set_to, fetch, register_of}
use Rattle.select_correct.specs.Costs.{fetch_cost, set_cost, form_cost, second_cost, ending_cost}
use Rattle.select_correct.specs.Laws.{Anything}
use Rattle.select_correct.proofs.Registers.{Only, Off, only_one, only_then, only_reg, off_then, off_last}
use Rattle.select_correct.proofs.Places.{Open, SourceHolds, onward, fetches}
use Rattle.select_correct.proofs.Operations.{equal_is, differ_is}

if_some : (t : Bool) (x form : Instr) → (if t then Some x else None) ≡ Some form → x ≡ form
if_some true x form e = cc
if_some false x form e = cc

module _ (F : Fixed) (env : ℕ → ℕ) (seg : ℕ) (i : List ℕ) (h : List Event) (Q : Light → Type 0) (r b : ℕ → ℕ) (rd : ℕ) (pos : 0 < rd) where
  -- rd has the result of the machine's operation
  ends : (n : ℕ) (o : Operation) (x y here mid : ℕ) (r1 : ℕ → ℕ) → x < 2 ^ 32 → y < 2 ^ 32 → Only rd r r1 → r1 rd ≡ operate_of (machine_of o) x y → Stands F.text env seg (ending o rd) here mid
      → ((r2 : ℕ → ℕ) → Only rd r r2 → r2 rd ≡ flat.operate o x y → Comes F Anything 0 n (Go r2 mid b i h) Q) → Comes F Anything 0 (ending_cost o + n) (Go r1 here b i h) Q
  ends n (operation.Machine o) x y here mid r1 hx hy only held st next =
      comes_by F Anything n (0 + n) (Go r1 here b i h) Q (omega arith) (onward F env seg i h Q {a0 = 0} n here mid r1 b st (next r1 only held))
  ends n operation.Equal x y here mid r1 hx hy only held st next =
      let w = one_if (eqb x y) in
      let r2 = with_reg r1 rd w in
      let back : reg r1 rd ≡ bit_xor x y = reg_is r1 rd pos ∙ held in
      let is : operate_immediate_of immediate_op.LessUnsigned (reg r1 rd) 1 ≡ w = ap (λ z. one_if (nat_lt z 1)) back ∙ equal_is x y hx hy in
      let there : here + 4 ≡ mid = sym st.1.1 ∙ st.2 in
      comes_by F Anything (suc n) (1 + n) (Go r1 here b i h) Q (omega arith)
      (comes_some F Anything (suc n) (Go r1 here b i h) Q
      (on_immediate F Anything Q n r1 here b i h tt immediate_op.LessUnsigned rd rd 1 w st.1.0 is
      (onward F env seg i h Q {a0 = 0} n (here + 4) mid r2 b there (next r2 (only_then rd r r1 r2 only (only_one rd w r1)) (with_same r1 rd w pos)))))
  ends n operation.NotEqual x y here mid r1 hx hy only held st next =
      let w = one_if (not (eqb x y)) in
      let r2 = with_reg r1 rd w in
      let back : reg r1 rd ≡ bit_xor x y = reg_is r1 rd pos ∙ held in
      let is : operate_of register_op.LessUnsigned (reg r1 0) (reg r1 rd) ≡ w = ap (λ z. one_if (nat_lt 0 z)) back ∙ differ_is x y hx hy in
      let there : here + 4 ≡ mid = sym st.1.1 ∙ st.2 in
      let c : Comes F Anything 0 n (Go r2 (here + 4) b i h) Q = onward F env seg i h Q {a0 = 0} n (here + 4) mid r2 b there (next r2 (only_then rd r r1 r2 only (only_one rd w r1)) (with_same r1 rd w pos)) in
      comes_by F Anything (suc n) (1 + n) (Go r1 here b i h) Q (omega arith)
      (comes_some F Anything (suc n) (Go r1 here b i h) Q
      (on_op F Anything Q n r1 here b i h tt register_op.LessUnsigned rd 0 rd st.1.0 (subst (λ z. Comes F Anything 0 n (Go (with_reg r1 rd z) (here + 4) b i h) Q) (sym is) c)))

  -- two registers
  operates : (n : ℕ) (o : Operation) (p q x y here mid : ℕ) → x < 2 ^ 32 → y < 2 ^ 32 → reg r p ≡ x → reg r q ≡ y → Stands F.text env seg (operate o rd p q) here mid
      → ((r2 : ℕ → ℕ) → Only rd r r2 → r2 rd ≡ flat.operate o x y → Comes F Anything 0 n (Go r2 mid b i h) Q) → Comes F Anything 1 (suc (ending_cost o + n)) (Go r here b i h) Q
  operates n o p q x y here mid hx hy ex ey st next =
      let w = operate_of (machine_of o) x y in
      let r1 = with_reg r rd w in
      let is : operate_of (machine_of o) (reg r p) (reg r q) ≡ w = rw (ex, ey) refl in
      let c : Comes F Anything 0 (ending_cost o + n) (Go r1 (here + 4) b i h) Q =
      onward F env seg i h Q {a0 = 0} (ending_cost o + n) (here + 4) st.0 r1 b (sym st.1.1) (ends n o x y st.0 mid r1 hx hy (only_one rd w r) (with_same r rd w pos) st.2 next) in
      on_op F Anything Q (ending_cost o + n) r here b i h tt (machine_of o) rd p q st.1.0 (subst (λ z. Comes F Anything 0 (ending_cost o + n) (Go (with_reg r rd z) (here + 4) b i h) Q) (sym is) c)

  -- ---- the constant in the instruction

  short_runs : (n : ℕ) (o : ImmediateOp) (p v w here : ℕ) (form : Instr) → operate_immediate_of o (reg r p) v ≡ w → short_form o rd p v ≡ Some form → F.text here ≡ Some form
      → Comes F Anything 0 n (Go (with_reg r rd w) (here + 4) b i h) Q → Comes F Anything 1 (suc n) (Go r here b i h) Q
  short_runs n o p v w here form is e et c =
      let same : instr.Immediate o rd p v ≡ form = if_some (nat_lt ((v + 0x800) % 2 ^ 32) 0x1000) (instr.Immediate o rd p v) form e in
      on_immediate F Anything Q n r here b i h tt o rd p v w (et ∙ ap Some (sym same)) is c

  shift_runs : (n : ℕ) (o : ShiftOp) (p x v here : ℕ) (form : Instr) → reg r p ≡ x → shift_form o rd p v ≡ Some form → F.text here ≡ Some form
      → Comes F Anything 0 n (Go (with_reg r rd (shift_by o x (v % 2 ^ 5))) (here + 4) b i h) Q → Comes F Anything 1 (suc n) (Go r here b i h) Q
  shift_runs n o p x v here form ex e et c =
      let is : shift_by o (reg r p) (v % 2 ^ 5) ≡ shift_by o x (v % 2 ^ 5) = ap (λ z. shift_by o z (v % 2 ^ 5)) ex in
      on_shift F Anything Q n r here b i h tt o rd p (v % 2 ^ 5) (et ∙ sym e) (subst (λ z. Comes F Anything 0 n (Go (with_reg r rd z) (here + 4) b i h) Q) (sym is) c)

  form_runs : (n : ℕ) (o : RegisterOp) (p x v here : ℕ) (form : Instr) → reg r p ≡ x → constant_form o rd p v ≡ Some form → F.text here ≡ Some form
      → Comes F Anything 0 n (Go (with_reg r rd (operate_of o x v)) (here + 4) b i h) Q → Comes F Anything 1 (suc n) (Go r here b i h) Q
  form_runs n register_op.Add p x v here form ex e et c = short_runs n immediate_op.Add p v (operate_of register_op.Add x v) here form (ap (λ z. (z + v) % 2 ^ 32) ex) e et c
  form_runs n register_op.Sub p x v here form ex e et c =
      let v2 = (2 ^ 32 - v) % 2 ^ 32 in
      let is : (reg r p + v2) % 2 ^ 32 ≡ (x + (2 ^ 32 - v)) % 2 ^ 32 = omega (arith, ex) in
      short_runs n immediate_op.Add p v2 (operate_of register_op.Sub x v) here form is e et c
  form_runs n register_op.ShiftLeft p x v here form ex e et c = shift_runs n shift_op.Left p x v here form ex e et c
  form_runs n register_op.Less p x v here form ex e et c =
      short_runs n immediate_op.Less p v (operate_of register_op.Less x v) here form (ap (λ z. one_if (int_lt (signed z) (signed v))) ex) e et c
  form_runs n register_op.LessUnsigned p x v here form ex e et c = short_runs n immediate_op.LessUnsigned p v (one_if (nat_lt x v)) here form (ap (λ z. one_if (nat_lt z v)) ex) e et c
  form_runs n register_op.Xor p x v here form ex e et c = short_runs n immediate_op.Xor p v (bit_xor x v) here form (ap (λ z. bit_xor z v) ex) e et c
  form_runs n register_op.ShiftRight p x v here form ex e et c = shift_runs n shift_op.Right p x v here form ex e et c
  form_runs n register_op.ShiftRightArithmetic p x v here form ex e et c = shift_runs n shift_op.RightArithmetic p x v here form ex e et c
  form_runs n register_op.Or p x v here form ex e et c = short_runs n immediate_op.Or p v (bit_or x v) here form (ap (λ z. bit_or z v) ex) e et c
  form_runs n register_op.And p x v here form ex e et c = short_runs n immediate_op.And p v (bit_and x v) here form (ap (λ z. bit_and z v) ex) e et c
  form_runs n register_op.Mul p x v here form ex e et c = cc
  form_runs n register_op.MulHigh p x v here form ex e et c = cc
  form_runs n register_op.MulHighSignedUnsigned p x v here form ex e et c = cc
  form_runs n register_op.MulHighUnsigned p x v here form ex e et c = cc
  form_runs n register_op.Div p x v here form ex e et c = cc
  form_runs n register_op.DivUnsigned p x v here form ex e et c = cc
  form_runs n register_op.Rem p x v here form ex e et c = cc
  form_runs n register_op.RemUnsigned p x v here form ex e et c = cc

-- r0 are the registers before the first operand was read, r those since
module _ (F : Fixed) (env : ℕ → ℕ) (seg : ℕ) (i : List ℕ) (h : List Event) (Q : Light → Type 0) (sp : ℕ) (stack : Open F sp) (r0 b : ℕ → ℕ) (e2 : r0 2 ≡ sp) (rd : ℕ) (pos : 0 < rd) where
  -- the second operand in a register of its own
  apart : (n : ℕ) (o : Operation) (p x : ℕ) (y : Source) (w here mid : ℕ) (r : ℕ → ℕ) → x < 2 ^ 32 → w < 2 ^ 32 → Off 5 r0 r → reg r p ≡ x → p ≢ 6 → SourceHolds r0 b sp y w → Stands F.text env seg (fetch 6 y ++ operate o rd p (register_of 6 y)) here mid
      → ((r2 : ℕ → ℕ) → Off rd r0 r2 → r2 rd ≡ flat.operate o x w → Comes F Anything 0 n (Go r2 mid b i h) Q) → Comes F Anything 1 (fetch_cost y + suc (ending_cost o + n)) (Go r here b i h) Q
  apart n o p x y w here mid r hx hw off ex ne hy st next =
      let parts = stands_parts F.text env seg (fetch 6 y) (operate o rd p (register_of 6 y)) here mid st in
      fetches F env seg i h Q sp stack r0 b e2 (suc (ending_cost o + n)) 6 (omega arith) (omega arith) y w here parts.0 r off hy parts.1 (λ r1 only held.
      let same : reg r1 p ≡ x = only_reg 6 p r r1 only ne ∙ ex in
      let off1 : Off 5 r0 r1 = off_then 5 6 r0 r r1 (omega arith) (omega arith) off only in
      operates F env seg i h Q r1 b rd pos n o p (register_of 6 y) x w parts.0 mid hx hw same held parts.2 (λ r2 only2 held2. next r2 (off_last rd r0 r1 r2 off1 only2) held2))

  chosen : (n : ℕ) (o : Operation) (p x v here mid : ℕ) (r : ℕ → ℕ) (t : Option Instr) → constant_form (machine_of o) rd p v ≡ t → x < 2 ^ 32 → v < 2 ^ 32 → Off 5 r0 r → reg r p ≡ x → p ≢ 6
      → Stands F.text env seg (form_or t (ending o rd) (set_to 6 v ∷ operate o rd p 6)) here mid
      → ((r2 : ℕ → ℕ) → Off rd r0 r2 → r2 rd ≡ flat.operate o x v → Comes F Anything 0 n (Go r2 mid b i h) Q) → Comes F Anything 1 (second_cost o rd p (source.Constant v) + suc (ending_cost o + n)) (Go r here b i h) Q
  chosen n o p x v here mid r (Some form) e hx hv off ex ne st next =
      let w = operate_of (machine_of o) x v in
      let r1 = with_reg r rd w in
      comes_by F Anything (suc (ending_cost o + n)) (second_cost o rd p (source.Constant v) + suc (ending_cost o + n)) (Go r here b i h) Q (omega arith)
      (form_runs F env seg i h Q r b rd pos (ending_cost o + n) (machine_of o) p x v here form ex e st.1.0
      (onward F env seg i h Q {a0 = 0} (ending_cost o + n) (here + 4) st.0 r1 b (sym st.1.1)
      (ends F env seg i h Q r b rd pos n o x v st.0 mid r1 hx hv (only_one rd w r) (with_same r rd w pos) st.2 (λ r2 only2 held2. next r2 (off_last rd r0 r r2 off only2) held2))))
  chosen n o p x v here mid r None e hx hv off ex ne st next =
      let count : second_cost o rd p (source.Constant v) ≡ set_cost v = ap (λ z. form_cost z (set_cost v)) e in
      comes_by F Anything (set_cost v + suc (ending_cost o + n)) (second_cost o rd p (source.Constant v) + suc (ending_cost o + n)) (Go r here b i h) Q (omega (arith, count))
      (apart n o p x (source.Constant v) v here mid r hx hv off ex ne (refl, hv) st next)

  pub combines : (n : ℕ) (o : Operation) (p x : ℕ) (y : Source) (w here mid : ℕ) (r : ℕ → ℕ) → x < 2 ^ 32 → w < 2 ^ 32 → Off 5 r0 r → reg r p ≡ x → p ≢ 6 → SourceHolds r0 b sp y w → Stands F.text env seg (combine o rd p y) here mid
      → ((r2 : ℕ → ℕ) → Off rd r0 r2 → r2 rd ≡ flat.operate o x w → Comes F Anything 0 n (Go r2 mid b i h) Q) → Comes F Anything 1 (second_cost o rd p y + suc (ending_cost o + n)) (Go r here b i h) Q
  combines n o p x (source.Register q) w here mid r hx hw off ex ne hy st next = apart n o p x (source.Register q) w here mid r hx hw off ex ne hy st next
  combines n o p x (source.Frame q) w here mid r hx hw off ex ne hy st next = apart n o p x (source.Frame q) w here mid r hx hw off ex ne hy st next
  combines n o p x (source.Constant v) w here mid r hx hw off ex ne hy st next =
      chosen n o p x v here mid r (constant_form (machine_of o) rd p v) refl hx hy.1 off ex ne st (λ r2 off2 held. next r2 off2 (held ∙ ap (λ z. flat.operate o x z) hy.0))
