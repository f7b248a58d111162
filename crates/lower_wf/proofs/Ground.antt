-- The checker's names, places and values, seen in a typed program.
use Rattle.std.proofs.Common.{◌≡◌, ◌%◌, ◌^◌, ◌≤◌, ◌<◌, ℕ, zero, suc, ◌+◌, ◌*◌, Bool, true, false, ◌&&◌, nat_lt, List, [], ◌∷◌, ◌++◌, length, Option, Some, None, pos, refl, ap, ◌∙◌, subst, arith}
use Rattle.std.proofs.lemmas.Bool.{false≢true, and_from}
use Rattle.std.proofs.lemmas.Bool.Decides.{nat_tests}
use Rattle.std.proofs.lemmas.Int.{ints}
use Rattle.ctypes.specs.declared.types.IntType.{IntType}
use Rattle.ctypes.specs.declared.types.IntType.TheVariants as ty
use Rattle.ctypes.specs.Types.{bytes_of, is_value_of}
use Rattle.typing_spec.specs.Types.{ObjectType, DeclaredType, complete, unknown_size, same_type, elements_in}
use Rattle.typing_spec.specs.Program.{Place, Value, Program}
use Rattle.typing_spec.specs.Expressions.{Checked, value, object, array, reference, nothing, designator, Worth, Target, Called, unused}
use Rattle.typing_spec.specs.Nodes.{type_of_value, type_of_place, row_type, object_type}
use Rattle.typing_spec.specs.Uses as uses
use Rattle.typing_spec.specs.Uses.{Used, Use, uses_in_place}
pub use Rattle.lower_wf.specs.Settled.{Setting, IsPresent, Present, RowsAre, FitsBy, Fits, Sized, SizedType, callee_in, CalleeFits, MeaningFits, AllFit, Names, text_in, TextsEnd}
use Rattle.typing_spec.specs.WellTyped.{is_scalar, some_number, place_is_typed, value_is_typed}

pub first : (p : Program) (xs ys : List Use) → Present p (xs ++ ys) → Present p xs
first p [] ys h = tt
first p (x ∷ xs) ys h = (h.0, first p xs ys h.1)

pub second : (p : Program) (xs ys : List Use) → Present p (xs ++ ys) → Present p ys
second p [] ys h = h
second p (x ∷ xs) ys h = second p xs ys h.1

pub same_some : {A : Type 0} (x y : A) → Some x ≡ Some y → x ≡ y
same_some x y e = cc

pub row_is : (u : ObjectType) (T : Option DeclaredType) → RowsAre u T → row_type T ≡ Some (complete u)
row_is u None h = absurd (false≢true h.0)
row_is u (Some (unknown_size t)) h = ap (λ k. Some (complete k)) (same_some t u h.1)
row_is u (Some (complete t)) h = ap object_type h.1

some_length : (n : ℕ) (l : List ℕ) → nat_lt 0 (length (n ∷ l)) ≡ true
some_length n l = grind (arith, nat_tests)

self_by : (e : IntType) (k : Bool) (l : List ℕ) → FitsBy e k l (Some (complete (record { element = e; constant = k; lengths = l })))
self_by e k [] = refl
self_by e k (n ∷ l) = (some_length n l, refl)

pub fits_self : (u : ObjectType) → Fits (complete u) (Some (complete u))
fits_self u = self_by u.element u.constant u.lengths

none_by : (e : IntType) (k : Bool) (l : List ℕ) → FitsBy e k l None → false ≡ true
none_by e k [] h = absurd (cc)
none_by e k (n ∷ l) h = h.0

pub fits_some : (t : DeclaredType) (T : Option DeclaredType) → Fits t T → (elim T as (λ x. Bool) [ None ↦ false | Some u ↦ true ]) ≡ true
fits_some t (Some u) h = refl
fits_some (complete t) None h = none_by t.element t.constant t.lengths h
fits_some (unknown_size t) None h = h.0

pub same_self : (t : IntType) → same_type t t ≡ true
same_self ty.Bool = refl
same_self ty.Char = refl
same_self ty.SChar = refl
same_self ty.UChar = refl
same_self ty.Short = refl
same_self ty.UShort = refl
same_self ty.Int = refl
same_self ty.UInt = refl
same_self ty.Long = refl
same_self ty.ULong = refl

scalar_self : (e : IntType) (k : Bool) → is_scalar e (Some (complete (record { element = e; constant = k; lengths = [] }))) ≡ true
scalar_self e k = and_from (same_type e e) true (same_self e) refl

pub scalar_is : (e : IntType) (k : Bool) (T : Option DeclaredType) → FitsBy e k [] T → is_scalar e T ≡ true
scalar_is e k T h = ap (is_scalar e) h ∙ scalar_self e k

pub few_bytes : (t : IntType) → bytes_of t ≤ 1048576
few_bytes ty.Bool = omega arith
few_bytes ty.Char = omega arith
few_bytes ty.SChar = omega arith
few_bytes ty.UChar = omega arith
few_bytes ty.Short = omega arith
few_bytes ty.UShort = omega arith
few_bytes ty.Int = omega arith
few_bytes ty.UInt = omega arith
few_bytes ty.Long = omega arith
few_bytes ty.ULong = omega arith

small_value : (n : ℕ) → n ≤ 1048576 → is_value_of ty.UInt (pos n) ≡ true
small_value n h = grind (arith, nat_tests, ints, h)

pub size_value : (n : ℕ) → n ≤ 1048576 → is_value_of ty.UInt (pos (n % 2 ^ 32)) ≡ true
size_value n h =
    let same : n ≡ n % 2 ^ 32 = omega (arith, h) in
    subst (λ k. is_value_of ty.UInt (pos k) ≡ true) same (small_value n h)

-- an element is no greater than its array
row_sized_by : (b n k : ℕ) → 0 < n * k → b * (n * k) ≤ 1048576 → (0 < k) × (b * k ≤ 1048576)
row_sized_by b zero k h l = absurd (let e : zero * k ≡ 0 = grind arith in omega (arith, h, e))
row_sized_by b n zero h l = absurd (let e : n * zero ≡ 0 = grind arith in omega (arith, h, e))
row_sized_by b (suc n) (suc k) h l = (omega arith, let e : b * (suc n * suc k) ≡ b * suc k + b * (n * suc k) = grind arith in omega (arith, l, e))

pub row_sized : (e : IntType) (k : Bool) (n : ℕ) (l : List ℕ) → let t : ObjectType = record { element = e; constant = k; lengths = n ∷ l } in let u : ObjectType = record { element = e; constant = k; lengths = l } in Sized t → Sized u
row_sized e k n l h = row_sized_by (bytes_of e) n (elements_in l) h.0 h.1

-- ---- properties that say that code is typed

abbrev pub PlaceTyped : Setting → Place → Type 0
PlaceTyped W a = Present W.program (uses_in_place a) → place_is_typed W.program W.function a ≡ true

abbrev pub Typed : Setting → Value → Type 0
Typed W e = Present W.program (uses.uses e) → value_is_typed W.program W.function e ≡ true

abbrev pub Is : Setting → IntType → Value → Type 0
Is W t e = Typed W e × (type_of_value e ≡ Some t)

abbrev pub type_at : Setting → Place → Option DeclaredType
type_at W a = type_of_place W.program W.function a

abbrev pub IsGood : Setting → Checked → Type 0
IsGood W (value at t e) = Is W t e
IsGood W (object at t k a) = PlaceTyped W a × (is_scalar t (type_at W a) ≡ true)
IsGood W (array at t a) = PlaceTyped W a × Fits t (type_at W a) × SizedType t
IsGood W (reference at u a) = PlaceTyped W a × RowsAre u (type_at W a) × Sized u
IsGood W (nothing at e) = Typed W (unused e) × (type_of_value e ≡ None)
IsGood W (designator at) = Unit {0}

abbrev pub IsWorth : Setting → Worth → Type 0
IsWorth W w = Is W w.type w.e

abbrev pub IsTarget : Setting → Target → Type 0
IsTarget W to = PlaceTyped W to.place × (is_scalar to.type (type_at W to.place) ≡ true)

abbrev pub IsCalled : Setting → Called → Type 0
IsCalled W g = CalleeFits W.program g.callee g.type

pub number : (W : Setting) (t : IntType) (e : Value) → Is W t e → Present W.program (uses.uses e) → (value_is_typed W.program W.function e && some_number (type_of_value e)) ≡ true
number W t e g u = and_from (value_is_typed W.program W.function e) (some_number (type_of_value e)) (g.0 u) (ap some_number g.1)
