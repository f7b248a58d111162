-- Positions in code, and the room that the instructions before them take.
use Rattle.std.proofs.Common.{◌≡◌, ℕ, zero, suc, ◌+◌, ◌<◌, List, [], ◌∷◌, length, map, Some, refl, ap, ◌∙◌, subst, arith}
use Rattle.std.specs.Prelude.{slice_get}
use Rattle.tac_code.specs.declared.code.Instruction.{Instruction}
use Rattle.lower_bounds.specs.inside.Rooms.{room_of, before}

pub same_some : {A : Type 0} (x y : A) → Some x ≡ Some y → x ≡ y
same_some x y e = cc

swapped : (a b c : ℕ) → a + b + c ≡ a + c + b
swapped a b c = omega arith

before_suc : (code : List Instruction) (pc : ℕ) (i : Instruction) → slice_get code pc ≡ Some i → before code (suc pc) ≡ before code pc + room_of i
before_suc [] pc i e = absurd (let z : ⊥ = cc in z)
before_suc (x ∷ code) zero i e = ap (λ y. 0 + room_of y) (same_some x i e)
before_suc (x ∷ code) (suc pc) i e = ap (λ n. n + room_of x) (before_suc code pc i e) ∙ swapped (before code pc) (room_of i) (room_of x)

as_suc : (n m : ℕ) → n + 1 ≡ m → suc n ≡ m
as_suc n m e = omega (arith, e)

pub before_next : (code : List Instruction) (pc pc2 : ℕ) (i : Instruction) → slice_get code pc ≡ Some i → pc + 1 ≡ pc2
    → before code pc2 ≡ before code pc + room_of i
before_next code pc pc2 i e n = subst (λ m. before code m ≡ before code pc + room_of i) (as_suc pc pc2 n) (before_suc code pc i e)

pub record Got {A : Type 0} (xs : List A) (n : ℕ) : Type 0 where
  pub element : A
  pub is : slice_get xs n ≡ Some element

pub got_below : {A : Type 0} (xs : List A) (n : ℕ) → n < length xs → Got xs n
got_below [] n lt = absurd (omega (arith, lt))
got_below (z ∷ xs) zero lt = record { element = z; is = refl }
got_below (z ∷ xs) (suc n) lt = let more = got_below xs n (omega (arith, lt)) in record { element = more.element; is = more.is }

pub length_map : {A B : Type 0} (f : A → B) (xs : List A) → length (map f xs) ≡ length xs
length_map f [] = refl
length_map f (x ∷ xs) = ap suc (length_map f xs)
