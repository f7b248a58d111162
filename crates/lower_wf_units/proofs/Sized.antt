-- No object of a function is without bytes (6.7p7, 6.7.6.2p1).
use Rattle.std.proofs.Common.{◌≡◌, ◌<◌, ℕ, zero, suc, Bool, true, nat_lt, nat_le, List, [], ◌∷◌, Some, subst, arith}
use Rattle.std.specs.Prelude.{slice_get}
use Rattle.std.specs.List.{list_all}
use Rattle.std.proofs.lemmas.Bool.Decides.{nat_tests}
use Rattle.ctypes.specs.declared.types.IntType.{IntType}
use Rattle.ctypes.specs.declared.types.IntType.TheVariants as ty
use Rattle.ctypes.specs.Types.{bytes_of}
use Rattle.typing_spec.specs.Types.{elements_in, size_of_object}
use Rattle.typing_spec.specs.Expressions.{object_limit}
use Rattle.lower_wf.specs.Asked.{is_sized, parameter_is_sized, function_is_sized}
use Rattle.lower_wf.proofs.Same.{both_true}
use Rattle.lower_wf.proofs.Ground.{same_some}
use Rattle.lower_wf.proofs.Typings.{product_positive}
use Rattle.lower_wf.proofs.SizedUnits.{types_sized}
use Rattle.lower_wf_units.specs.Objects.{ObjectsAreSized}

item_is : {A : Type 0} (test : A → Bool) (xs : List A) (n : ℕ) (x : A) → list_all test xs ≡ true → slice_get xs n ≡ Some x → test x ≡ true
item_is test [] n x h e = absurd (let z : ⊥ = cc in z)
item_is test (y ∷ xs) zero x h e = subst (λ z. test z ≡ true) (same_some y x e) (both_true (test y) (list_all test xs) h).0
item_is test (y ∷ xs) (suc n) x h e = item_is test xs n x (both_true (test y) (list_all test xs) h).1 e

lt_holds : (a b : ℕ) → nat_lt a b ≡ true → a < b
lt_holds a b h = grind (arith, nat_tests)

some_bytes : (t : IntType) → 0 < bytes_of t
some_bytes ty.Bool = omega arith
some_bytes ty.Char = omega arith
some_bytes ty.SChar = omega arith
some_bytes ty.UChar = omega arith
some_bytes ty.Short = omega arith
some_bytes ty.UShort = omega arith
some_bytes ty.Int = omega arith
some_bytes ty.UInt = omega arith
some_bytes ty.Long = omega arith
some_bytes ty.ULong = omega arith

pub objects_are_sized : ObjectsAreSized
objects_are_sized stack texts whole unit p e k f g n o i =
    let statics = list_all (λ o. is_sized o.type) p.statics in
    let functions = (both_true (list_all function_is_sized p.functions) statics (types_sized stack texts whole unit p e)).0 in
    let of_function = item_is function_is_sized p.functions k f functions g in
    let objects = (both_true (list_all parameter_is_sized f.type.parameters) (list_all is_sized f.objects) of_function).1 in
    let some = nat_lt 0 (elements_in o.lengths) in
    let sized = (both_true some (nat_le (size_of_object o) object_limit) (item_is is_sized f.objects n o objects i)).0 in
    product_positive (bytes_of o.element) (elements_in o.lengths) (some_bytes o.element) (lt_holds 0 (elements_in o.lengths) sized)
