-- Consequences of a value that is zero, or is not.
use Rattle.std.proofs.Common.{◌≡◌, zero, suc, ℤ, pos, negsuc, arith, subst, sym, refl, ◌⊎◌, inl, inr}
use Rattle.std.proofs.lemmas.Int.{ints}
use Rattle.std.specs.Prelude.{Option, None, Bool, true, false, ◌<ℤ◌}
use Rattle.ctypes.specs.Types.{truth}
use Rattle.csem.specs.Machine.{State}
use Rattle.verify_logic.specs.declared.abstract_values.Interval.{Interval}
use Rattle.verify_logic.specs.States.{Known, Frame, In, Reaches}
use Rattle.verify_logic.specs.Judgements.{either_way}
use Rattle.verify_logic.specs.Places.{Splits, NonZero, Zero}

never_true : (i : Interval) (v : ℤ) → i.low ≡ pos 0 → i.high ≡ pos 0 → In i v → truth v ≡ true → ⊥
never_true i (pos zero) el eh m t = cc t
never_true i (pos (suc n)) el eh m t = omega (arith, ints, el, eh, m.0, m.1)
never_true i (negsuc n) el eh m t = omega (arith, ints, el, eh, m.0, m.1)

pub none_if_zero : (i : Interval) (o : Option Known) → i.low ≡ pos 0 → i.high ≡ pos 0 → NonZero i o None
none_if_zero i o el eh = record { is = λ fr s v m t h. never_true i v el eh m t }

pub nonzero_same : (i : Interval) (o o2 : Option Known) → o2 ≡ o → NonZero i o o2
nonzero_same i o o2 e = record { is = λ fr s v m t h. let P : Option Known → Type 0 = λ o. Reaches fr o s in subst P (sym e) h }

above : (i : Interval) (v : ℤ) → pos 0 <ℤ i.low → In i v → truth v ≡ false → ⊥
above i (pos zero) l m t = omega (arith, ints, l, m.0)
above i (pos (suc n)) l m t = cc t
above i (negsuc n) l m t = cc t

under : (i : Interval) (v : ℤ) → i.high <ℤ pos 0 → In i v → truth v ≡ false → ⊥
under i (pos zero) l m t = omega (arith, ints, l, m.1)
under i (pos (suc n)) l m t = cc t
under i (negsuc n) l m t = cc t

pub none_if_above : (i : Interval) (o : Option Known) → pos 0 <ℤ i.low → Zero i o None
none_if_above i o l = record { is = λ fr s v m t h. above i v l m t }

pub none_if_under : (i : Interval) (o : Option Known) → i.high <ℤ pos 0 → Zero i o None
none_if_under i o l = record { is = λ fr s v m t h. under i v l m t }

pub zero_same : (i : Interval) (o : Option Known) → Zero i o o
zero_same i o = record { is = λ fr s v m t h. h }

pub splits_rule : (i : Interval) (o on off : Option Known) → NonZero i o on → Zero i o off → Splits i o on off
splits_rule i o on off f g = record { is = λ fr s v m h. at (truth v) fr s (λ t. f.is fr s v m t h) (λ t. g.is fr s v m t h) }
  where
    at : (b : Bool) (fr : Frame) (s : State) → (b ≡ true → Reaches fr on s) → (b ≡ false → Reaches fr off s) → Reaches fr (either_way b on off) s
    at true fr s f g = f refl
    at false fr s f g = g refl

pub none_if_nonzero : (i : Interval) (o : Option Known) → (pos 0 <ℤ i.low) ⊎ (i.high <ℤ pos 0) → Zero i o None
none_if_nonzero i o (inl l) = none_if_above i o l
none_if_nonzero i o (inr l) = none_if_under i o l
