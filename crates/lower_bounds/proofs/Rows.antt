-- Elements and rows of the objects that a typed program names have sizes that are words.
use Rattle.std.proofs.Common.{◌≡◌, ℕ, zero, suc, ◌<◌, ◌≤◌, ◌^◌, List, [], ◌∷◌, Bool, true, nat_lt, nat_le, Option, Some, None, refl, subst, arith}
use Rattle.std.specs.Prelude.{slice_get}
use Rattle.std.specs.List.{list_all}
use Rattle.std.proofs.lemmas.Bool.Decides.{nat_tests}
use Rattle.srcset.specs.declared.refusal.Pos.{Pos}
use Rattle.ctypes.specs.declared.types.IntType.{IntType}
use Rattle.typing_spec.specs.Types.{ObjectType, DeclaredType, complete, unknown_size, ParameterType, number, elements, elements_in, size_of_object, inner_type}
use Rattle.typing_spec.specs.Expressions.{object_limit}
use Rattle.typing_spec.specs.Program as typed
use Rattle.typing_spec.specs.Program.{Static, Storage, Place, Value, Function, Program}
use Rattle.typing_spec.specs.Nodes.{reference_in, text_type, static_type, object_type, row_type, type_of_storage, type_of_place}
use Rattle.lower_wf.specs.Asked.{is_sized, parameter_is_sized, function_is_sized, types_are_sized}
use Rattle.lower_wf.specs.Settled.{Sized}
use Rattle.lower_wf.proofs.Ground.{row_sized}
use Rattle.lower_correct.specs.Places.{size_of_type, size_of_place}
use Rattle.lower_correct.proofs.Words.{left_true, right_true}
use Rattle.lower_bounds.proofs.Lists.{same_some}

-- ---- the test

of_all : {A : Type 0} (test : A → Bool) (xs : List A) (n : ℕ) (x : A) → list_all test xs ≡ true → slice_get xs n ≡ Some x → test x ≡ true
of_all test [] n x h e = absurd (let no_such : ⊥ = cc in no_such)
of_all test (y ∷ xs) zero x h e = subst (λ z. test z ≡ true) (same_some y x e) (left_true (test y) (list_all test xs) h)
of_all test (y ∷ xs) (suc n) x h e = of_all test xs n x (right_true (test y) (list_all test xs) h) e

le_holds : (a b : ℕ) → nat_le a b ≡ true → a ≤ b
le_holds a b h = grind (arith, nat_tests)

lt_holds : (a b : ℕ) → nat_lt a b ≡ true → a < b
lt_holds a b h = grind (arith, nat_tests)

is_sized_holds : (t : ObjectType) → is_sized t ≡ true → Sized t
is_sized_holds t h =
    let some = nat_lt 0 (elements_in t.lengths) in
    let small = nat_le (size_of_object t) object_limit in
    (lt_holds 0 (elements_in t.lengths) (left_true some small h), le_holds (size_of_object t) object_limit (right_true some small h))

-- ---- types whose rows are sized

abbrev IsRow : Option DeclaredType → Type 0
IsRow None = Unit {0}
IsRow (Some (complete t)) = Sized t
IsRow (Some (unknown_size t)) = Unit {0}

by_lengths : (e : IntType) (c : Bool) (l : List ℕ) → Sized (record { element = e; constant = c; lengths = l }) → IsRow (object_type (inner_type e c l))
by_lengths e c [] h = tt
by_lengths e c (n ∷ l) h = row_sized e c n l h

of_object : (t : ObjectType) → Sized t → IsRow (row_type (Some (complete t)))
of_object t h = by_lengths t.element t.constant t.lengths h

-- a row of a row
of_row : (T : Option DeclaredType) → IsRow (row_type T) → IsRow (row_type (row_type T))
of_row None h = tt
of_row (Some (unknown_size t)) h = of_object t h
of_row (Some (complete t)) h = by_inner (inner_type t.element t.constant t.lengths) h
  where
    by_inner : (o : Option ObjectType) → IsRow (object_type o) → IsRow (row_type (object_type o))
    by_inner None h = tt
    by_inner (Some u) h = of_object u h

small_row : (T : Option DeclaredType) → IsRow (row_type T) → size_of_type (row_type T) < 2 ^ 32
small_row T h = by_row (row_type T) h
  where
    within : (n : ℕ) → n ≤ 1048576 → n < 2 ^ 32
    within n h = omega (arith, h)

    by_row : (o : Option DeclaredType) → IsRow o → size_of_type o < 2 ^ 32
    by_row None h = omega arith
    by_row (Some (complete t)) h = within (size_of_object t) h.1
    by_row (Some (unknown_size t)) h = omega arith

-- ---- the objects that names denote

module _ (p : Program) (f : Function) (of_function : function_is_sized f ≡ true) (of_statics : list_all (λ o. is_sized o.type) p.statics ≡ true) where
  of_text : (o : Option (List ℕ)) → IsRow (row_type (text_type o))
  of_text None = tt
  of_text (Some text) = (omega arith, omega arith)

  of_static : (n : ℕ) (o : Option Static) → slice_get p.statics n ≡ o → IsRow (row_type (static_type o))
  of_static n None e = tt
  of_static n (Some x) e = of_object x.type (is_sized_holds x.type (of_all (λ o. is_sized o.type) p.statics n x of_statics e))

  of_automatic : (n : ℕ) (o : Option ObjectType) → slice_get f.objects n ≡ o → IsRow (row_type (object_type o))
  of_automatic n None e = tt
  of_automatic n (Some t) e =
      of_object t (is_sized_holds t (of_all is_sized f.objects n t
      (right_true (list_all parameter_is_sized f.type.parameters) (list_all is_sized f.objects) of_function) e))

  of_parameter : (ps : List ParameterType) (n : ℕ) → list_all parameter_is_sized ps ≡ true → IsRow (row_type (reference_in ps n))
  of_parameter [] n h = tt
  of_parameter (number t ∷ ps) n h = of_parameter ps n h
  of_parameter (elements t ∷ ps) zero h = is_sized_holds t (left_true (is_sized t) (list_all parameter_is_sized ps) h)
  of_parameter (elements t ∷ ps) (suc n) h = of_parameter ps n (right_true (is_sized t) (list_all parameter_is_sized ps) h)

  of_storage : (what : Storage) → IsRow (row_type (type_of_storage p f what))
  of_storage (typed.literal n) = of_text (slice_get p.literals n)
  of_storage (typed.static n) = of_static n (slice_get p.statics n) refl
  of_storage (typed.automatic n) = of_automatic n (slice_get f.objects n) refl
  of_storage (typed.parameter n) =
      of_parameter f.type.parameters n (left_true (list_all parameter_is_sized f.type.parameters) (list_all is_sized f.objects) of_function)

  of_place : (a : Place) → IsRow (row_type (type_of_place p f a))
  of_place (typed.named at what) = of_storage what
  of_place (typed.element at array index) = of_row (type_of_place p f array) (of_place array)

  small_part : (at : Pos) (array : Place) (index : Value) → size_of_place p f (typed.element at array index) < 2 ^ 32
  small_part at array index = small_row (type_of_place p f array) (of_place array)

pub parts_are_small : (p : Program) (k : ℕ) (f : Function) → slice_get p.functions k ≡ Some f → types_are_sized p ≡ true
    → (at : Pos) (array : Place) (index : Value) → size_of_place p f (typed.element at array index) < 2 ^ 32
parts_are_small p k f e h =
    let functions = list_all function_is_sized p.functions in
    let statics = list_all (λ (o : Static). is_sized o.type) p.statics in
    small_part p f (of_all function_is_sized p.functions k f (left_true functions statics h) e) (right_true functions statics h)
