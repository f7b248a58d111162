-- Relations and truth values that intervals decide.
use Rattle.std.proofs.Common.{◌≡◌, zero, suc, ℤ, pos, negsuc, ◌<ℤ◌, refl, subst, sym, arith}
use Rattle.std.proofs.lemmas.Int.{ints}
use Rattle.std.proofs.Common.{◌⊎◌, inl, inr}
use Rattle.std.specs.Prelude.{Bool, true, false, not, Result, Ok, Err}
use Rattle.ctypes.specs.declared.types.IntType.{IntType}
use Rattle.ctypes.specs.declared.operators.BinOp.{BinOp}
use Rattle.ctypes.specs.declared.operators.Undef.{Undef}
use Rattle.ctypes.specs.declared.types.IntType.TheVariants as ty
use Rattle.ctypes.specs.Types.{truth, of_truth, converted}
use Rattle.ctypes.specs.Arithmetic.{computed}
use Rattle.typing_spec.specs.Operators.{right_operand}
use Rattle.verify_logic.specs.declared.abstract_values.Interval.{Interval}
use Rattle.verify_logic.specs.declared.operands.Relation.{Relation}
use Rattle.tree.specs.declared.expression.PrefixOp.{PrefixOp}
use Rattle.tree.specs.declared.expression.PrefixOp.TheVariants as prefix
use Rattle.verify_logic.specs.States.{In, just, range_of}
use Rattle.verify_logic.specs.Judgements.{GivesIn, Computes, Converts, ConvertsRight, Operates, Signs}
use Rattle.verify_logic.specs.Relations.{Tells, Narrows}
use Rattle.verify_intervals.specs.Decided.{Never, Refutes, Negates}

pub refutes_left : (r : Relation) (i j i2 j2 : Interval) → Narrows r i j i2 j2 → i2.high <ℤ i2.low → Refutes r i j
refutes_left r i j i2 j2 f l = record { is = λ v w m n h. let k = f.is v w m n h in let a : In i2 v = k.0 in omega (arith, ints, l, a.0, a.1) }

pub refutes_right : (r : Relation) (i j i2 j2 : Interval) → Narrows r i j i2 j2 → j2.high <ℤ j2.low → Refutes r i j
refutes_right r i j i2 j2 f l = record { is = λ v w m n h. let k = f.is v w m n h in let a : In j2 w = k.1 in omega (arith, ints, l, a.0, a.1) }

pub never_straight : (op : BinOp) (b sw : Bool) (r : Relation) (i j : Interval) → sw ≡ false → Tells op b sw r → Refutes r i j → Never op b i j
never_straight op b sw r i j e h f = let P : Bool → Type 0 = λ sw. Tells op b sw r in
    let k : Tells op b false r = subst P e h in record { is = λ t v w x m n ce te. f.is v w m n (k.is t v w x ce te) }

pub never_swapped : (op : BinOp) (b sw : Bool) (r : Relation) (i j : Interval) → sw ≡ true → Tells op b sw r → Refutes r j i → Never op b i j
never_swapped op b sw r i j e h f = let P : Bool → Type 0 = λ sw. Tells op b sw r in
    let k : Tells op b true r = subst P e h in record { is = λ t v w x m n ce te. f.is w v n m (k.is t v w x ce te) }

-- one that is never false
pub decides_true : (op : BinOp) (t : IntType) (i j all r : Interval) → Computes op t i j all → Never op false i j → all.low ≡ pos 0 → r.low ≡ pos 1 → r.high ≡ all.high → Computes op t i j r
decides_true op t i j all r h f e el eh = record { gives = λ v w m n. by (computed op t v w) (h.gives v w m n) (λ x ce te. f.is t v w x m n ce te) }
  where
    by : (c : Result ℤ Undef) → GivesIn all c → ((x : ℤ) → c ≡ Ok x → truth x ≡ false → ⊥) → GivesIn r c
    by (Err act) q g = q
    by (Ok (pos zero)) q g = absurd (g (pos zero) refl refl)
    by (Ok (pos (suc n))) q g = (omega (arith, ints, el), omega (arith, ints, eh, q.1))
    by (Ok (negsuc n)) q g = absurd (omega (arith, ints, e, q.0))

-- one that is never true
pub decides_false : (op : BinOp) (t : IntType) (i j all r : Interval) → Computes op t i j all → Never op true i j → r ≡ just (pos 0) → Computes op t i j r
decides_false op t i j all r h f e = let P : Interval → Type 0 = λ r. Computes op t i j r in
    subst P (sym e) (record { gives = λ v w m n. by (computed op t v w) (h.gives v w m n) (λ x ce te. f.is t v w x m n ce te) })
  where
    by : (c : Result ℤ Undef) → GivesIn all c → ((x : ℤ) → c ≡ Ok x → truth x ≡ true → ⊥) → GivesIn (just (pos 0)) c
    by (Err act) q g = q
    by (Ok (pos zero)) q g = (omega (arith, ints), omega (arith, ints))
    by (Ok (pos (suc n))) q g = absurd (g (pos (suc n)) refl refl)
    by (Ok (negsuc n)) q g = absurd (g (negsuc n) refl refl)

pub operates_by : (op : BinOp) (t : IntType) (i j a b r : Interval) → Converts t i a → ConvertsRight op t j b → Computes op t a b r → Operates op t i j r
operates_by op t i j a b r f g h = record { gives = λ v w m n. h.gives (converted t v) (right_operand op t w) (f.gives v m) (g.gives w n) }

-- ---- `!`

pub negates_zero : (i r : Interval) → (i.low ≡ pos 0) × (i.high ≡ pos 0) → r ≡ just (pos 1) → Negates i r
negates_zero i r z e = let P : Interval → Type 0 = λ r. Negates i r in subst P (sym e) (record { is = λ v m. by v m })
  where
    by : (v : ℤ) → In i v → In (just (pos 1)) (of_truth (not (truth v)))
    by (pos zero) m = (omega (arith, ints), omega (arith, ints))
    by (pos (suc n)) m = absurd (let h = z.1 in omega (arith, ints, h, m.1))
    by (negsuc n) m = absurd (let h = z.0 in omega (arith, ints, h, m.0))

pub negates_nonzero : (i r : Interval) → (pos 0 <ℤ i.low) ⊎ (i.high <ℤ pos 0) → r ≡ just (pos 0) → Negates i r
negates_nonzero i r z e = let P : Interval → Type 0 = λ r. Negates i r in subst P (sym e) (record { is = λ v m. by v m (never z v m) })
  where
    never : (pos 0 <ℤ i.low) ⊎ (i.high <ℤ pos 0) → (v : ℤ) → In i v → v ≡ pos 0 → ⊥
    never (inl l) v m q = omega (arith, ints, l, m.0, q)
    never (inr l) v m q = omega (arith, ints, l, m.1, q)

    by : (v : ℤ) → In i v → (v ≡ pos 0 → ⊥) → In (just (pos 0)) (of_truth (not (truth v)))
    by (pos zero) m f = absurd (f refl)
    by (pos (suc n)) m f = (omega (arith, ints), omega (arith, ints))
    by (negsuc n) m f = (omega (arith, ints), omega (arith, ints))

pub negates_any : (i r : Interval) → r ≡ range_of ty.Bool → Negates i r
negates_any i r e = let P : Interval → Type 0 = λ r. Negates i r in subst P (sym e) (record { is = λ v m. by (truth v) })
  where
    by : (b : Bool) → In (range_of ty.Bool) (of_truth (not b))
    by true = (omega (arith, ints), omega (arith, ints))
    by false = (omega (arith, ints), omega (arith, ints))

pub not_rule : (op : PrefixOp) (t : IntType) (i a r : Interval) → op ≡ prefix.Not → Converts t i a → Negates a r → Signs op t i r
not_rule op t i a r e f g = let P : PrefixOp → Type 0 = λ op. Signs op t i r in subst P (sym e) (record { gives = λ v m. g.is (converted t v) (f.gives v m) })
