-- Counts of the elements of objects that are sized fit instructions.
use Rattle.std.proofs.Common.{◌≡◌, ℕ, zero, suc, pos, ◌+◌, ◌*◌, ◌<◌, ◌≤◌, ◌-◌, ◌^◌, min, List, [], ◌∷◌, true, nat_lt, nat_le, Some, subst, arith}
use Rattle.std.specs.Prelude.{slice_get}
use Rattle.std.specs.List.{list_all}
use Rattle.std.proofs.lemmas.Bool.Decides.{nat_tests}
use Rattle.ctypes.specs.declared.types.IntType.{IntType}
use Rattle.ctypes.specs.declared.types.IntType.TheVariants as ty
use Rattle.ctypes.specs.Types.{bytes_of}
use Rattle.typing_spec.specs.Types.{ObjectType, elements_in, size_of_object}
use Rattle.typing_spec.specs.Expressions.{object_limit}
use Rattle.lower_wf.specs.Asked.{is_sized, parameter_is_sized, function_is_sized, types_are_sized}
use Rattle.lower_correct.proofs.Words.{left_true, right_true}
use Rattle.lower_bounds.proofs.Lists.{same_some}
use Rattle.lower_bounds.proofs.Rows.{parts_are_small}
use Rattle.lower_ops.specs.layer.Small.{RowsAreSmall}
use Rattle.typing_spec.specs.Program.{Program, Function, constant}
use Rattle.srcset.specs.declared.refusal.Pos.{Pos}

has_bytes : (t : IntType) (n : ℕ) → n ≤ bytes_of t * n
has_bytes ty.Bool n = omega arith
has_bytes ty.Char n = omega arith
has_bytes ty.SChar n = omega arith
has_bytes ty.UChar n = omega arith
has_bytes ty.Short n = omega arith
has_bytes ty.UShort n = omega arith
has_bytes ty.Int n = omega arith
has_bytes ty.UInt n = omega arith
has_bytes ty.Long n = omega arith
has_bytes ty.ULong n = omega arith

pub has_elements : (t : ObjectType) → is_sized t ≡ true → 0 < elements_in t.lengths
has_elements t h = less (left_true (nat_lt 0 (elements_in t.lengths)) (nat_le (size_of_object t) object_limit) h)
  where
    less : nat_lt 0 (elements_in t.lengths) ≡ true → 0 < elements_in t.lengths
    less e = grind (arith, nat_tests)

pub has_few : (t : ObjectType) → is_sized t ≡ true → elements_in t.lengths < 2 ^ 32
has_few t h =
    let le = less (right_true (nat_lt 0 (elements_in t.lengths)) (nat_le (size_of_object t) object_limit) h) in
    let more = has_bytes t.element (elements_in t.lengths) in
    omega (arith, le, more)
  where
    less : nat_le (size_of_object t) object_limit ≡ true → bytes_of t.element * elements_in t.lengths ≤ 1048576
    less e = grind (arith, nat_tests)

-- ---- rows

pub row_is : (row elements : ℕ) → row ≡ min elements (2 ^ 64 - 1) → elements < 2 ^ 32 → row ≡ elements
row_is row elements e h = omega (arith, e, h)

-- where k rows from number n on fit, those after the first fit
pub rows_inside : (n n2 k k2 row e : ℕ) → k ≡ suc k2 → n2 ≡ n + row → row ≡ e → n + k * e < 2 ^ 32 → n2 + k2 * e < 2 ^ 32
rows_inside n n2 k k2 row e ek en er h =
    let sum : suc k2 * e ≡ e + k2 * e = grind arith in
    let l = subst (λ j. n + j * e < 2 ^ 32) ek h in
    omega (arith, l, sum, en, er)

-- ---- objects of a list

pub each_sized : (ts : List ObjectType) (n : ℕ) (t : ObjectType) → list_all is_sized ts ≡ true → slice_get ts n ≡ Some t → is_sized t ≡ true
each_sized [] n t h e = absurd (let no_such : ⊥ = cc in no_such)
each_sized (u ∷ ts) zero t h e = subst (λ z. is_sized z ≡ true) (same_some u t e) (left_true (is_sized u) (list_all is_sized ts) h)
each_sized (u ∷ ts) (suc n) t h e = each_sized ts n t (right_true (is_sized u) (list_all is_sized ts) h) e

-- ---- functions of a program

-- an operator and a number of no importance: the size of an element is that of its array's elements
abbrev no_place : Pos
no_place = record { file = 0; line = 0 }

pub rows_small : (p : Program) (k : ℕ) (f : Function) → slice_get p.functions k ≡ Some f → types_are_sized p ≡ true → RowsAreSmall p f
rows_small p k f e h = λ array. parts_are_small p k f e h no_place array (constant ty.Int (pos 0))

of_functions : (fs : List Function) (k : ℕ) (f : Function) → list_all function_is_sized fs ≡ true → slice_get fs k ≡ Some f → function_is_sized f ≡ true
of_functions [] k f h e = absurd (let no_such : ⊥ = cc in no_such)
of_functions (g ∷ fs) zero f h e = subst (λ z. function_is_sized z ≡ true) (same_some g f e) (left_true (function_is_sized g) (list_all function_is_sized fs) h)
of_functions (g ∷ fs) (suc k) f h e = of_functions fs k f (right_true (function_is_sized g) (list_all function_is_sized fs) h) e

pub objects_sized : (p : Program) (k : ℕ) (f : Function) → slice_get p.functions k ≡ Some f → types_are_sized p ≡ true → list_all is_sized f.objects ≡ true
objects_sized p k f e h =
    right_true (list_all parameter_is_sized f.type.parameters) (list_all is_sized f.objects)
    (of_functions p.functions k f (left_true (list_all function_is_sized p.functions) (list_all (λ o. is_sized o.type) p.statics) h) e)
