-- Pieces of the code of expressions keep within their room, and are fine.
use Rattle.std.proofs.Common.{◌≡◌, ℕ, ◌+◌, ◌*◌, ◌<◌, ◌≤◌, ◌^◌, Bool, true, false, ℤ, arith}
use Rattle.ctypes.specs.declared.types.IntType.{IntType}
use Rattle.ctypes.specs.declared.operators.BinOp.{BinOp}
use Rattle.ctypes.specs.declared.operators.BinOp.TheVariants as op
use Rattle.ctypes.specs.Types.{truth}
use Rattle.tac_code.specs.declared.code.Operand.{Operand}
use Rattle.tac_code.specs.declared.code.Operand.TheVariants as operand
use Rattle.tac_code.specs.declared.code.Target.{Target}
use Rattle.tac_code.specs.declared.code.Reading.{Reading}
use Rattle.lower_correct.specs.Values.{Mode, Nowhere, To, If, mode_of, target_of}
use Rattle.lower_correct.specs.Code.{truth_jump, test, One, Ends, Follows, Constantly, Computes, Then, Compares, Operates, Converts, Casts}
use Rattle.lower_correct.proofs.Words.{word_small}
use Rattle.lower_bounds.proofs.Grounds.{Ground, OperandFine, TargetFine, Stays, Lands, ModeLands, Aims}
use Rattle.lower_bounds.proofs.Stretches.{Within, one, none, join, settle, aimed}
use Rattle.lower_bounds.proofs.Operands.{Free, operand_fine, target_fine, target_lands, mode_lands, mode_aims}

zero_small : 0 < 2 ^ 32
zero_small = omega arith

one_small : 1 < 2 ^ 32
one_small = omega arith

more : (p q l : ℕ) → p + 1 ≡ q → q ≤ l → p ≤ l
more p q l e h = omega (arith, e, h)

pub next_le : (p q : ℕ) → p + 1 ≡ q → p ≤ q
next_le p q e = omega (arith, e)

last_room : (w : ℕ) → 128 * w + 0 ≤ 128 * w + 32
last_room w = omega arith

convert_room : (w : ℕ) → 128 * (w + 1) + 0 ≤ 128 * w + (32 + 96)
convert_room w = omega arith

kept_room : (w : ℕ) → 128 * w + 96 ≤ 128 * (w + 1) + 32
kept_room w = omega arith

cast_room : (w : ℕ) → 128 * (w + (1 + 1)) + 96 ≤ 128 * (w + 1) + (32 + (96 + 96))
cast_room w = omega arith

module _ (z : Ground) where
  -- ---- the ends of expressions

  test_within : (A : Type 0) (sense : Bool) (o : Operand) (to pc pc2 : ℕ) → OperandFine z o → (A → to ≤ z.limit) → One z.code (test sense o to) pc pc2 → Within z A 1 96 pc pc2
  test_within A true o to pc pc2 fine aims i = one z _ 96 pc pc2 i (omega arith) (λ a. (fine, zero_small, aims a))
  test_within A false o to pc pc2 fine aims i = one z _ 96 pc pc2 i (omega arith) (λ a. (fine, zero_small, aims a))

  pub ends_within : (m : Mode) (o : Operand) (t k pc pc2 : ℕ) → ModeLands z m t k → Free z t k → OperandFine z o → Ends z.code m o pc pc2 → Within z (Aims z m pc2) 1 96 pc pc2
  ends_within Nowhere o t k pc pc2 l f fine i = settle z 1 96 (omega arith) (none z pc pc2 i)
  ends_within (To g) o t k pc pc2 l f fine i = one z _ 96 pc pc2 i (omega arith) (λ a. (target_fine z g t k f l, fine))
  ends_within (If sense to) o t k pc pc2 l f fine i = test_within (Aims z (If sense to) pc2) sense o to pc pc2 fine (λ a. a.1) i

  pub follows_within : (m : Mode) (t k pc pc2 : ℕ) → ModeLands z m t k → Free z t k → Follows z.code m t pc pc2 → Within z (Aims z m pc2) 1 96 pc pc2
  follows_within Nowhere t k pc pc2 l f i = settle z 1 96 (omega arith) (none z pc pc2 i)
  follows_within (To g) t k pc pc2 l f i = settle z 1 96 (omega arith) (none z pc pc2 i)
  follows_within (If sense to) t k pc pc2 l f i =
      test_within (Aims z (If sense to) pc2) sense (operand.Temporary t) to pc pc2 (operand_fine z (operand.Temporary t) t k f (let e : t ≤ t = omega arith in e)) (λ a. a.1) i

  jump_within : (A : Type 0) (b sense : Bool) (to pc pc2 : ℕ) → (A → to ≤ z.limit) → One z.code (truth_jump b sense to) pc pc2 → Within z A 1 96 pc pc2
  jump_within A true true to pc pc2 aims i = one z _ 96 pc pc2 i (omega arith) aims
  jump_within A false false to pc pc2 aims i = one z _ 96 pc pc2 i (omega arith) aims
  jump_within A true false to pc pc2 aims i = one z _ 96 pc pc2 i (omega arith) (λ a. tt)
  jump_within A false true to pc pc2 aims i = one z _ 96 pc pc2 i (omega arith) (λ a. tt)

  pub constantly_within : (m : Mode) (v : ℤ) (t k pc pc2 : ℕ) → ModeLands z m t k → Free z t k → Constantly z.code m v pc pc2 → Within z (Aims z m pc2) 1 96 pc pc2
  constantly_within Nowhere v t k pc pc2 l f i = one z _ 96 pc pc2 i (omega arith) (λ a. tt)
  constantly_within (To g) v t k pc pc2 l f i = one z _ 96 pc pc2 i (omega arith) (λ a. (target_fine z g t k f l, word_small v))
  constantly_within (If sense to) v t k pc pc2 l f i = jump_within (Aims z (If sense to) pc2) (truth v) sense to pc pc2 (λ a. a.1) i

  -- ---- operations

  two_computed : {A : Type 0} {pc p1 pc2 : ℕ} → Within z A 1 84 pc p1 → Within z A 1 84 p1 pc2 → Within z A 1 40 pc pc2
  two_computed a b = settle z 1 40 (omega arith) (join z a b)

  pub computes_within : {A : Type 0} (o : BinOp) (r : Reading) (g : Target) (a b : Operand) (t pc pc2 : ℕ) → TargetFine z g → OperandFine z a → OperandFine z b → t < z.bound
      → Computes z.code o r g a b t pc pc2 → Within z A 1 40 pc pc2
  computes_within op.Mul r g a b t pc pc2 fg fa fb ft i = one z _ 40 pc pc2 i (omega arith) (λ x. (fg, fa, fb))
  computes_within op.Div r g a b t pc pc2 fg fa fb ft i = one z _ 40 pc pc2 i (omega arith) (λ x. (fg, fa, fb))
  computes_within op.Rem r g a b t pc pc2 fg fa fb ft i = one z _ 40 pc pc2 i (omega arith) (λ x. (fg, fa, fb))
  computes_within op.Add r g a b t pc pc2 fg fa fb ft i = one z _ 40 pc pc2 i (omega arith) (λ x. (fg, fa, fb))
  computes_within op.Sub r g a b t pc pc2 fg fa fb ft i = one z _ 40 pc pc2 i (omega arith) (λ x. (fg, fa, fb))
  computes_within op.Shl r g a b t pc pc2 fg fa fb ft i = one z _ 40 pc pc2 i (omega arith) (λ x. (fg, fa, fb))
  computes_within op.Shr r g a b t pc pc2 fg fa fb ft i = one z _ 40 pc pc2 i (omega arith) (λ x. (fg, fa, fb))
  computes_within op.Less r g a b t pc pc2 fg fa fb ft i = one z _ 40 pc pc2 i (omega arith) (λ x. (fg, fa, fb))
  computes_within op.Greater r g a b t pc pc2 fg fa fb ft i = one z _ 40 pc pc2 i (omega arith) (λ x. (fg, fb, fa))
  computes_within op.LessEqual r g a b t pc pc2 fg fa fb ft i =
      two_computed (one z _ 84 pc i.0 i.1 (omega arith) (λ x. (ft, fb, fa))) (one z _ 84 i.0 pc2 i.2 (omega arith) (λ x. (fg, ft, one_small)))
  computes_within op.GreaterEqual r g a b t pc pc2 fg fa fb ft i =
      two_computed (one z _ 84 pc i.0 i.1 (omega arith) (λ x. (ft, fa, fb))) (one z _ 84 i.0 pc2 i.2 (omega arith) (λ x. (fg, ft, one_small)))
  computes_within op.Equal r g a b t pc pc2 fg fa fb ft i = one z _ 40 pc pc2 i (omega arith) (λ x. (fg, fa, fb))
  computes_within op.NotEqual r g a b t pc pc2 fg fa fb ft i = one z _ 40 pc pc2 i (omega arith) (λ x. (fg, fa, fb))
  computes_within op.BitAnd r g a b t pc pc2 fg fa fb ft i = one z _ 40 pc pc2 i (omega arith) (λ x. (fg, fa, fb))
  computes_within op.BitXor r g a b t pc pc2 fg fa fb ft i = one z _ 40 pc pc2 i (omega arith) (λ x. (fg, fa, fb))
  computes_within op.BitOr r g a b t pc pc2 fg fa fb ft i = one z _ 40 pc pc2 i (omega arith) (λ x. (fg, fa, fb))

  now : (t k : ℕ) → Free z t k → t < z.bound
  now t k f = let h = f.0 in omega (arith, h)

  pub then_within : (o : BinOp) (r : Reading) (m : Mode) (a b : Operand) (t k pc pc2 : ℕ) → ModeLands z m t k → Free z t k → OperandFine z a → OperandFine z b
      → Then z.code o r m a b t pc pc2 → Within z (Aims z m pc2) 1 8 pc pc2
  then_within o r m a b t k pc pc2 l f fa fb i =
      settle z 1 8 (omega arith) (join z
      (computes_within o r (target_of m t) a b t pc i.0 (target_fine z (target_of m t) t k f (target_lands z m t k l)) fa fb (now t k f) i.1)
      (follows_within m t k i.0 pc2 l f i.2))

  compares_within : (o : BinOp) (r : Reading) (sense : Bool) (to : ℕ) (a b : Operand) (t k pc pc2 : ℕ) → Free z t k → OperandFine z a → OperandFine z b
      → Compares z.code o r sense to a b t pc pc2 → Within z (Aims z (If sense to) pc2) 1 8 pc pc2
  compares_within op.Less r sense to a b t k pc pc2 f fa fb i = one z _ 8 pc pc2 i (omega arith) (λ x. (fa, fb, x.1))
  compares_within op.Greater r sense to a b t k pc pc2 f fa fb i = one z _ 8 pc pc2 i (omega arith) (λ x. (fb, fa, x.1))
  compares_within op.LessEqual r sense to a b t k pc pc2 f fa fb i = one z _ 8 pc pc2 i (omega arith) (λ x. (fb, fa, x.1))
  compares_within op.GreaterEqual r sense to a b t k pc pc2 f fa fb i = one z _ 8 pc pc2 i (omega arith) (λ x. (fa, fb, x.1))
  compares_within op.Equal r sense to a b t k pc pc2 f fa fb i = one z _ 8 pc pc2 i (omega arith) (λ x. (fa, fb, x.1))
  compares_within op.NotEqual r sense to a b t k pc pc2 f fa fb i = one z _ 8 pc pc2 i (omega arith) (λ x. (fa, fb, x.1))
  compares_within op.Mul r sense to a b t k pc pc2 f fa fb i = then_within op.Mul r (If sense to) a b t k pc pc2 tt f fa fb i
  compares_within op.Div r sense to a b t k pc pc2 f fa fb i = then_within op.Div r (If sense to) a b t k pc pc2 tt f fa fb i
  compares_within op.Rem r sense to a b t k pc pc2 f fa fb i = then_within op.Rem r (If sense to) a b t k pc pc2 tt f fa fb i
  compares_within op.Add r sense to a b t k pc pc2 f fa fb i = then_within op.Add r (If sense to) a b t k pc pc2 tt f fa fb i
  compares_within op.Sub r sense to a b t k pc pc2 f fa fb i = then_within op.Sub r (If sense to) a b t k pc pc2 tt f fa fb i
  compares_within op.Shl r sense to a b t k pc pc2 f fa fb i = then_within op.Shl r (If sense to) a b t k pc pc2 tt f fa fb i
  compares_within op.Shr r sense to a b t k pc pc2 f fa fb i = then_within op.Shr r (If sense to) a b t k pc pc2 tt f fa fb i
  compares_within op.BitAnd r sense to a b t k pc pc2 f fa fb i = then_within op.BitAnd r (If sense to) a b t k pc pc2 tt f fa fb i
  compares_within op.BitXor r sense to a b t k pc pc2 f fa fb i = then_within op.BitXor r (If sense to) a b t k pc pc2 tt f fa fb i
  compares_within op.BitOr r sense to a b t k pc pc2 f fa fb i = then_within op.BitOr r (If sense to) a b t k pc pc2 tt f fa fb i

  pub operates_within : (o : BinOp) (r : Reading) (m : Mode) (a b : Operand) (t k pc pc2 : ℕ) → ModeLands z m t k → Free z t k → OperandFine z a → OperandFine z b
      → Operates z.code o r m a b t pc pc2 → Within z (Aims z m pc2) 1 8 pc pc2
  operates_within o r Nowhere a b t k pc pc2 l f fa fb i = then_within o r Nowhere a b t k pc pc2 l f fa fb i
  operates_within o r (To g) a b t k pc pc2 l f fa fb i = then_within o r (To g) a b t k pc pc2 l f fa fb i
  operates_within o r (If sense to) a b t k pc pc2 l f fa fb i = compares_within o r sense to a b t k pc pc2 f fa fb i

  -- ---- conversion, of w nodes

  pub converts_within : (c : Bool) (I : Mode → ℕ → ℕ → Type 0) (u : IntType) (o : Operand) (g : Target) (w t k pc pc2 : ℕ) → Lands z g t k → Stays z o t k → Free z t k
      → ((m : Mode) (p p2 : ℕ) → ModeLands z m t k → I m p p2 → Within z (Aims z m p2) w 32 p p2)
      → Converts z.code c I u o g pc pc2 → Within z (Aims z (To g) pc2) w 0 pc pc2
  converts_within true I u o g w t k pc pc2 l s f does i = settle z w 0 (last_room w) (does (To g) pc pc2 l i)
  converts_within false I u o g w t k pc pc2 l s f does i =
      settle z w 0 (convert_room w) (join z
      (aimed z (λ a. (more i.0 pc2 z.limit i.2.next a.0, mode_aims z o)) (does (mode_of o) pc i.0 (mode_lands z o t k s) i.1))
      (one z _ 96 i.0 pc2 i.2 (omega arith) (λ a. (target_fine z g t k f l, operand_fine z o t k f s))))

  pub casts_within : (c : Bool) (I : Mode → ℕ → ℕ → Type 0) (u : IntType) (o : Operand) (m : Mode) (w t k pc pc2 : ℕ) → ModeLands z m t k → Stays z o t k → Free z t k
      → ((m : Mode) (p p2 : ℕ) → ModeLands z m t k → I m p p2 → Within z (Aims z m p2) w 32 p p2)
      → Casts z.code c I u o m t pc pc2 → Within z (Aims z m pc2) (w + 1) 96 pc pc2
  casts_within true I u o m w t k pc pc2 l s f does i = settle z (w + 1) 96 (kept_room w) (does m pc pc2 l i)
  casts_within false I u o m w t k pc pc2 l s f does i =
      let first = does (mode_of o) pc i.0 (mode_lands z o t k s) i.2 in
      let last = follows_within m t k i.1 pc2 l f i.4 in
      settle z (w + 1) 96 (cast_room w) (join z
      (aimed z (λ a. (more i.0 i.1 z.limit i.3.next (let h = last.forward in let g = a.0 in let e : i.1 ≤ z.limit = omega (arith, h, g) in e), mode_aims z o)) first)
      (join z (one z _ 96 i.0 i.1 i.3 (omega arith) (λ a. (target_fine z (target_of m t) t k f (target_lands z m t k l), operand_fine z o t k f s))) last))
