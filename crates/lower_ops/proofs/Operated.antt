-- Parts of operations.
use Rattle.std.proofs.Common.{◌≡◌, ℕ, ◌+◌, ◌<◌, Bool, true, false, List, length, refl, subst, arith}
use Rattle.ctypes.specs.declared.operators.BinOp.{BinOp}
use Rattle.ctypes.specs.declared.operators.BinOp.TheVariants as op
use Rattle.tac_code.specs.declared.code.Operand.{Operand}
use Rattle.tac_code.specs.declared.code.Operand.TheVariants as operand
use Rattle.tac_code.specs.declared.code.Target.{Target}
use Rattle.tac_code.specs.declared.code.Target.TheVariants as target
use Rattle.tac_code.specs.declared.code.Reading.{Reading}
use Rattle.tac_code.specs.declared.code.Reading.TheVariants as reading
use Rattle.tac_code.specs.declared.code.Operation.TheVariants as operation
use Rattle.tac_code.specs.declared.code.Instruction.{Instruction}
use Rattle.tac_code.specs.declared.code.Instruction.TheVariants as instruction
use Rattle.lower_correct.specs.Values.{To, If}
use Rattle.lower_correct.specs.Code.{One, Ends, Follows, Computes, Then, Compares, Operates, Truths, zero_word}
use Rattle.lower_ops.specs.layer.Parts.{plus, shape_of, Wrote}
use Rattle.lower_ops.specs.declared.modes.Shape.TheVariants as shape
use Rattle.lower_ops.specs.layer.FormSizes.{ends_size, follows_size, computes_size, then_size, compares_size, operates_size, truths_size}
use Rattle.lower_ops.specs.layer.Emitted.{is_twofold, first_of, is_comparison, jump_of}
use Rattle.lower_ops.proofs.Parts.{begins_on, none_wrote, two, three, reach_one}

abbrev Either : Bool → Type 0 → Type 0 → Type 0
Either true A B = A
Either false A B = B

from_true : {A : Type 0} → true ≡ false → A
from_true {A} e = subst (λ b. Either b ℕ A) e 0

from_false : {A : Type 0} → false ≡ true → A
from_false {A} e = subst (λ b. Either b A ℕ) e 0

pub one_as : {c0 c1 : List Instruction} {i j : Instruction} → i ≡ j → Wrote (λ w p q. One w i p q) 1 c0 c1 → Wrote (λ w p q. One w j p q) 1 c0 c1
one_as {c0} {c1} e x = subst (λ k. Wrote (λ w p q. One w k p q) 1 c0 c1) e x

-- ---- ends

pub to_ends : (g : Target) (o : Operand) {c0 c1 : List Instruction} → Wrote (λ w p q. One w (instruction.Move g o) p q) 1 c0 c1
    → Wrote (λ w p q. Ends w (To g) o p q) (ends_size (shape_of (To g))) c0 c1
to_ends (target.Temporary j) o x = x
to_ends (target.Kept j) o x = x
to_ends (target.Object y) o x = x

pub no_follows : (g : Target) (t : ℕ) (c : List Instruction) → length c < 9223372036854775808 → Wrote (λ w p q. Follows w (To g) t p q) (follows_size (shape_of (To g))) c c
no_follows (target.Temporary j) t c l = none_wrote (λ w p q. p ≡ q) c c refl l (λ w. refl)
no_follows (target.Kept j) t c l = none_wrote (λ w p q. p ≡ q) c c refl l (λ w. refl)
no_follows (target.Object y) t c l = none_wrote (λ w p q. p ≡ q) c c refl l (λ w. refl)

-- ---- operations

pub computes_one : (o : BinOp) → is_twofold o ≡ false → (r : Reading) (g : Target) (a b : Operand) (t : ℕ) {c0 c1 : List Instruction}
    → Wrote (λ w p q. One w (first_of o r g a b) p q) 1 c0 c1 → Wrote (λ w p q. Computes w o r g a b t p q) (computes_size o) c0 c1
computes_one op.Mul e r g a b t x = x
computes_one op.Div e r g a b t x = x
computes_one op.Rem e r g a b t x = x
computes_one op.Add e r g a b t x = x
computes_one op.Sub e r g a b t x = x
computes_one op.Shl e r g a b t x = x
computes_one op.Shr e r g a b t x = x
computes_one op.Less e r g a b t x = x
computes_one op.Greater e r g a b t x = x
computes_one op.LessEqual e r g a b t x = from_true e
computes_one op.GreaterEqual e r g a b t x = from_true e
computes_one op.Equal e r g a b t x = x
computes_one op.NotEqual e r g a b t x = x
computes_one op.BitAnd e r g a b t x = x
computes_one op.BitXor e r g a b t x = x
computes_one op.BitOr e r g a b t x = x

pub computes_two : (o : BinOp) → is_twofold o ≡ true → (r : Reading) (g : Target) (a b : Operand) (t : ℕ) {c0 c1 c2 : List Instruction}
    → Wrote (λ w p q. One w (first_of o r (target.Temporary t) a b) p q) 1 c0 c1
    → Wrote (λ w p q. One w (instruction.Compute operation.ExclusiveOr reading.Signed g (operand.Temporary t) (operand.Constant 1)) p q) 1 c1 c2
    → Wrote (λ w p q. Computes w o r g a b t p q) (computes_size o) c0 c2
computes_two op.Mul e r g a b t x y = from_false e
computes_two op.Div e r g a b t x y = from_false e
computes_two op.Rem e r g a b t x y = from_false e
computes_two op.Add e r g a b t x y = from_false e
computes_two op.Sub e r g a b t x y = from_false e
computes_two op.Shl e r g a b t x y = from_false e
computes_two op.Shr e r g a b t x y = from_false e
computes_two op.Less e r g a b t x y = from_false e
computes_two op.Greater e r g a b t x y = from_false e
computes_two op.LessEqual e r g a b t x y = two x y
computes_two op.GreaterEqual e r g a b t x y = two x y
computes_two op.Equal e r g a b t x y = from_false e
computes_two op.NotEqual e r g a b t x y = from_false e
computes_two op.BitAnd e r g a b t x y = from_false e
computes_two op.BitXor e r g a b t x y = from_false e
computes_two op.BitOr e r g a b t x y = from_false e

pub compares_one : (o : BinOp) → is_comparison o ≡ true → (r : Reading) (sense : Bool) (to : ℕ) (a b : Operand) (t : ℕ) {c0 c1 : List Instruction}
    → Wrote (λ w p q. One w (jump_of o r sense to a b) p q) 1 c0 c1 → Wrote (λ w p q. Compares w o r sense to a b t p q) (compares_size o) c0 c1
compares_one op.Mul e r sense to a b t x = from_false e
compares_one op.Div e r sense to a b t x = from_false e
compares_one op.Rem e r sense to a b t x = from_false e
compares_one op.Add e r sense to a b t x = from_false e
compares_one op.Sub e r sense to a b t x = from_false e
compares_one op.Shl e r sense to a b t x = from_false e
compares_one op.Shr e r sense to a b t x = from_false e
compares_one op.Less e r sense to a b t x = x
compares_one op.Greater e r sense to a b t x = x
compares_one op.LessEqual e r sense to a b t x = x
compares_one op.GreaterEqual e r sense to a b t x = x
compares_one op.Equal e r sense to a b t x = x
compares_one op.NotEqual e r true to a b t x = x
compares_one op.NotEqual e r false to a b t x = x
compares_one op.BitAnd e r sense to a b t x = from_false e
compares_one op.BitXor e r sense to a b t x = from_false e
compares_one op.BitOr e r sense to a b t x = from_false e

pub compares_two : (o : BinOp) → is_comparison o ≡ false → (r : Reading) (sense : Bool) (to : ℕ) (a b : Operand) (t : ℕ) {c0 c1 : List Instruction}
    → Wrote (λ w p q. Then w o r (If sense to) a b t p q) (then_size o shape.Jump) c0 c1 → Wrote (λ w p q. Compares w o r sense to a b t p q) (compares_size o) c0 c1
compares_two op.Mul e r sense to a b t x = x
compares_two op.Div e r sense to a b t x = x
compares_two op.Rem e r sense to a b t x = x
compares_two op.Add e r sense to a b t x = x
compares_two op.Sub e r sense to a b t x = x
compares_two op.Shl e r sense to a b t x = x
compares_two op.Shr e r sense to a b t x = x
compares_two op.Less e r sense to a b t x = from_true e
compares_two op.Greater e r sense to a b t x = from_true e
compares_two op.LessEqual e r sense to a b t x = from_true e
compares_two op.GreaterEqual e r sense to a b t x = from_true e
compares_two op.Equal e r sense to a b t x = from_true e
compares_two op.NotEqual e r sense to a b t x = from_true e
compares_two op.BitAnd e r sense to a b t x = x
compares_two op.BitXor e r sense to a b t x = x
compares_two op.BitOr e r sense to a b t x = x

pub to_operates : (g : Target) (o : BinOp) (r : Reading) (a b : Operand) (t : ℕ) {c0 c1 : List Instruction}
    → Wrote (λ w p q. Then w o r (To g) a b t p q) (then_size o (shape_of (To g))) c0 c1 → Wrote (λ w p q. Operates w o r (To g) a b t p q) (operates_size o (shape_of (To g))) c0 c1
to_operates (target.Temporary j) o r a b t x = x
to_operates (target.Kept j) o r a b t x = x
to_operates (target.Object y) o r a b t x = x

-- ---- a truth that is to be a number

pub truths_wrote : (g : Target) (end : ℕ) {c0 c1 c2 c3 : List Instruction} → Wrote (λ w p q. One w (instruction.Move g (operand.Constant 1)) p q) 1 c0 c1
    → Wrote (λ w p q. One w (instruction.Jump end) p q) 1 c1 c2 → Wrote (λ w p q. One w (instruction.Move g zero_word) p q) 1 c2 c3 → end ≡ plus (length c0) 3
    → Wrote (λ w p q. Truths w g p (p + 2) q) truths_size c0 c3
truths_wrote g end {c0} {c1} {c2} {c3} x0 x1 x2 e =
    let at_end : end ≡ length c3 = reach_one end (length c0) 3 (length c3) e (omega (arith, x0.grows, x1.grows, x2.grows)) x2.short in
    let at_other : length c2 ≡ length c0 + 2 = omega (arith, x0.grows, x1.grows) in
    let y1 = subst (λ n. Wrote (λ w p q. One w (instruction.Jump n) p q) 1 c1 c2) at_end x1 in
    let all = three x0 y1 x2 in
    record {
      begins = all.begins;
      grows = all.grows;
      short = all.short;
      stands = λ w h.
          let a = x0.stands w (begins_on x1.begins (begins_on x2.begins h)) in
          let b = subst (λ n. One w (instruction.Jump (length c3)) (length c1) n) at_other (y1.stands w (begins_on x2.begins h)) in
          let c = subst (λ n. One w (instruction.Move g zero_word) n (length c3)) at_other (x2.stands w h) in
          (length c1, a, b, c);
    }
