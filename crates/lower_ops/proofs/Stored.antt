-- Parts of a stored value.
use Rattle.std.proofs.Common.{◌≡◌, ℕ, ◌+◌, Bool, ◌||◌, List, refl, subst}
use Rattle.ctypes.specs.declared.types.IntType.{IntType}
use Rattle.ctypes.specs.declared.operators.BinOp.{BinOp}
use Rattle.tac_code.specs.declared.code.Operand.{Operand}
use Rattle.tac_code.specs.declared.code.Operand.TheVariants as operand
use Rattle.tac_code.specs.declared.code.Target.{Target}
use Rattle.tac_code.specs.declared.code.Target.TheVariants as target
use Rattle.tac_code.specs.declared.code.Place.{Place as Spot}
use Rattle.tac_code.specs.declared.code.Instruction.{Instruction}
use Rattle.typing_spec.specs.Program as typed
use Rattle.lower_correct.specs.Asked.{is_wide}
use Rattle.lower_correct.specs.Values.{reading_of, Mode, Nowhere, To, If}
use Rattle.lower_correct.specs.Places.{cuts}
use Rattle.lower_correct.specs.Code.{Ends, Computes, Puts, Alters, AltersAside, AltersBy}
use Rattle.lower_ops.specs.layer.Parts.{shape_of, Wrote}
use Rattle.lower_ops.specs.declared.modes.Shape.TheVariants as shape
use Rattle.lower_ops.specs.layer.FormSizes.{ends_size, computes_size, puts_size, cuts_for, alters_size, alters_aside_size, alters_after_size}
use Rattle.lower_ops.proofs.Parts.{two, three}

pub cuts_same : (u : IntType) (m : Mode) → cuts u m ≡ cuts_for u (shape_of m)
cuts_same u Nowhere = refl
cuts_same u (To (target.Temporary j)) = refl
cuts_same u (To (target.Kept j)) = refl
cuts_same u (To (target.Object y)) = refl
cuts_same u (If sense to) = refl

-- stored as it is or not: by the mode, and by its shape in the size
pub stored_by : (u : IntType) (o : Operand) (a : Spot) (m : Mode) (t : ℕ) (b kept : Bool) {c0 c1 : List Instruction} → kept ≡ cuts u m || b
    → Wrote (λ w p q. Puts w kept u o a m t p q) (puts_size kept (shape_of m)) c0 c1
    → Wrote (λ w p q. Puts w (cuts u m || b) u o a m t p q) (puts_size (cuts_for u (shape_of m) || b) (shape_of m)) c0 c1
stored_by u o a m t b kept {c0} {c1} e x =
    subst (λ n. Wrote (λ w p q. Puts w (cuts u m || b) u o a m t p q) (puts_size (n || b) (shape_of m)) c0 c1) (cuts_same u m)
    (subst (λ n. Wrote (λ w p q. Puts w n u o a m t p q) (puts_size n (shape_of m)) c0 c1) e x)

pub altered_wrote : (o : BinOp) (u of : IntType) (b : Operand) (a : Spot) (m : Mode) (j : ℕ) (kept : Bool) {c0 c1 c2 : List Instruction} → kept ≡ cuts u m || is_wide u
    → Wrote (λ w p q. Computes w o (reading_of of) (target.Temporary j) (operand.Temporary j) b j p q) (computes_size o) c0 c1
    → Wrote (λ w p q. Puts w kept u (operand.Temporary j) a m j p q) (puts_size kept (shape_of m)) c1 c2
    → Wrote (λ w p q. Alters w o u of b a m j p q) (alters_size o u (shape_of m)) c0 c2
altered_wrote o u of b a m j kept e x0 x1 = two x0 (stored_by u (operand.Temporary j) a m j (is_wide u) kept e x1)

pub aside_wrote : (o : BinOp) (u of : IntType) (a : Spot) (m : Mode) (j j1 : ℕ) (kept : Bool) {c0 c1 c2 c3 : List Instruction} → j1 ≡ j + 1 → kept ≡ cuts u Nowhere || is_wide u
    → Wrote (λ w p q. Computes w o (reading_of of) (target.Temporary j1) (operand.Temporary j) (operand.Constant 1) j1 p q) (computes_size o) c0 c1
    → Wrote (λ w p q. Puts w kept u (operand.Temporary j1) a Nowhere j1 p q) (puts_size kept shape.Nowhere) c1 c2
    → Wrote (λ w p q. Ends w m (operand.Temporary j) p q) (ends_size (shape_of m)) c2 c3
    → Wrote (λ w p q. AltersAside w o u of a m j p q) (alters_aside_size o u (shape_of m)) c0 c3
aside_wrote o u of a m j j1 kept {c0} {c1} {c2} {c3} ej e x0 x1 x2 =
    let y0 = subst (λ n. Wrote (λ w p q. Computes w o (reading_of of) (target.Temporary n) (operand.Temporary j) (operand.Constant 1) n p q) (computes_size o) c0 c1) ej x0 in
    let z1 = subst (λ n. Wrote (λ w p q. Puts w kept u (operand.Temporary n) a Nowhere n p q) (puts_size kept shape.Nowhere) c1 c2) ej x1 in
    let y1 = stored_by u (operand.Temporary (j + 1)) a Nowhere (j + 1) (is_wide u) kept e z1 in
    three y0 y1 x2

pub after_to : (o : BinOp) (u of : IntType) (a : Spot) (g : Target) (j : ℕ) {c0 c1 : List Instruction}
    → Wrote (λ w p q. AltersAside w o u of a (To g) j p q) (alters_aside_size o u (shape_of (To g))) c0 c1
    → Wrote (λ w p q. AltersBy w typed.after o u of a (To g) j p q) (alters_after_size o u (shape_of (To g))) c0 c1
after_to o u of a (target.Temporary i) j x = x
after_to o u of a (target.Kept i) j x = x
after_to o u of a (target.Object y) j x = x
