-- Types that are found to be the same are equal.
use Rattle.std.proofs.Common.{◌≡◌, ℕ, zero, suc, Bool, true, false, ◌&&◌, nat_eq, List, [], ◌∷◌, Option, Some, None, refl, sym, ap, ◌∙◌, arith}
use Rattle.std.specs.Prelude.{if◌then◌else◌}
use Rattle.ctypes.specs.declared.types.IntType.{IntType}
use Rattle.ctypes.specs.declared.types.IntType.TheVariants as ty
use Rattle.typing_spec.specs.Types.{ObjectType, complete, ParameterType, number, elements, FunctionType, place_of, same_type, same_truth, same_lengths, alike, same_object, same_parameter, same_parameters, same_result, same_function, fits_unknown}
use Rattle.typing_spec.specs.Scope.{a_function}
use Rattle.decls_linkage.specs.Views.{are_elements}

at_place : ℕ → IntType
at_place zero = ty.Bool
at_place (suc zero) = ty.Char
at_place (suc (suc zero)) = ty.SChar
at_place (suc (suc (suc zero))) = ty.UChar
at_place (suc (suc (suc (suc zero)))) = ty.Short
at_place (suc (suc (suc (suc (suc zero))))) = ty.UShort
at_place (suc (suc (suc (suc (suc (suc zero)))))) = ty.Int
at_place (suc (suc (suc (suc (suc (suc (suc zero))))))) = ty.UInt
at_place (suc (suc (suc (suc (suc (suc (suc (suc zero)))))))) = ty.Long
at_place (suc (suc (suc (suc (suc (suc (suc (suc (suc n))))))))) = ty.ULong

placed : (t : IntType) → at_place (place_of t) ≡ t
unfolding at_place
placed ty.Bool = refl
placed ty.Char = refl
placed ty.SChar = refl
placed ty.UChar = refl
placed ty.Short = refl
placed ty.UShort = refl
placed ty.Int = refl
placed ty.UInt = refl
placed ty.Long = refl
placed ty.ULong = refl

same_number : (m n : ℕ) → nat_eq m n ≡ true → m ≡ n
same_number m n e = grind arith

both_true : (a b : Bool) → (a && b) ≡ true → (a ≡ true) × (b ≡ true)
both_true true b e = (refl, e)
both_true false b e = absurd (cc)

type_is : (a b : IntType) → same_type a b ≡ true → a ≡ b
type_is a b e = sym (placed a) ∙ ap at_place (same_number (place_of a) (place_of b) e) ∙ placed b

truth_is : (a b : Bool) → same_truth a b ≡ true → a ≡ b
truth_is true true e = refl
truth_is false false e = refl
truth_is true false e = absurd (cc)
truth_is false true e = absurd (cc)

lengths_are : (a b : List ℕ) → same_lengths a b ≡ true → a ≡ b
lengths_are [] [] e = refl
lengths_are [] (n ∷ ns) e = absurd (cc)
lengths_are (m ∷ ms) [] e = absurd (cc)
lengths_are (m ∷ ms) (n ∷ ns) e =
    let w = both_true (nat_eq m n) (same_lengths ms ns) e in ap (λ k. k ∷ ms) (same_number m n w.0) ∙ ap (λ ks. n ∷ ks) (lengths_are ms ns w.1)

object_by : (e f : IntType) (c d : Bool) (ms ns : List ℕ) → e ≡ f → c ≡ d → ms ≡ ns → let a : ObjectType = record { element = e; constant = c; lengths = ms } in let b : ObjectType = record { element = f; constant = d; lengths = ns } in a ≡ b
object_by e f c d ms ns p q r = cc

pub same_object_is : (a b : ObjectType) → same_object a b ≡ true → a ≡ b
same_object_is a b e =
    let w = both_true (alike a b) (same_truth a.constant b.constant) e in
    let v = both_true (same_type a.element b.element) (same_lengths a.lengths b.lengths) w.0 in
    object_by a.element b.element a.constant b.constant a.lengths b.lengths (type_is a.element b.element v.0) (truth_is a.constant b.constant w.1) (lengths_are a.lengths b.lengths v.1)

parameter_is : (a b : ParameterType) → same_parameter a b ≡ true → a ≡ b
parameter_is (number a) (number b) e = ap number (type_is a b e)
parameter_is (elements a) (elements b) e = ap elements (same_object_is a b e)
parameter_is (number a) (elements b) e = absurd (cc)
parameter_is (elements a) (number b) e = absurd (cc)

parameters_are : (a b : List ParameterType) → same_parameters a b ≡ true → a ≡ b
parameters_are [] [] e = refl
parameters_are [] (q ∷ qs) e = absurd (cc)
parameters_are (p ∷ ps) [] e = absurd (cc)
parameters_are (p ∷ ps) (q ∷ qs) e =
    let w = both_true (same_parameter p q) (same_parameters ps qs) e in ap (λ k. k ∷ ps) (parameter_is p q w.0) ∙ ap (λ ks. q ∷ ks) (parameters_are ps qs w.1)

result_is : (a b : Option IntType) → same_result a b ≡ true → a ≡ b
result_is None None e = refl
result_is (Some a) (Some b) e = ap Some (type_is a b e)
result_is None (Some b) e = absurd (cc)
result_is (Some a) None e = absurd (cc)

function_by : (r s : Option IntType) (c d : Bool) (ps qs : List ParameterType) → r ≡ s → c ≡ d → ps ≡ qs → let f : FunctionType = record { result = r; constant = c; parameters = ps } in let g : FunctionType = record { result = s; constant = d; parameters = qs } in f ≡ g
function_by r s c d ps qs p q e = cc

pub same_function_is : (f g : FunctionType) → same_function f g ≡ true → f ≡ g
same_function_is f g e =
    let w = both_true (same_result f.result g.result) (same_truth f.constant g.constant && same_parameters f.parameters g.parameters) e in
    let v = both_true (same_truth f.constant g.constant) (same_parameters f.parameters g.parameters) w.1 in
    function_by f.result g.result f.constant g.constant f.parameters g.parameters (result_is f.result g.result w.0) (truth_is f.constant g.constant v.0) (parameters_are f.parameters g.parameters v.1)

-- a size that one of two declarations leaves open
pub fits_by : (o : Option ObjectType) (e t : ObjectType) → fits_unknown o e t ≡ if are_elements o e then Some (complete t) else None
fits_by None e t = refl
fits_by (Some u) e t = refl

-- the new one of two that are the same
pub kept : (a b : ObjectType) → same_object a b ≡ true → Some b ≡ if same_object a b then Some a else None
kept a b e = ap Some (sym (same_object_is a b e)) ∙ ap (λ k. if k then Some a else None) (sym e)

pub kept_function : (f g : FunctionType) → same_function f g ≡ true → Some (a_function g) ≡ if same_function f g then Some (a_function f) else None
kept_function f g e = ap (λ k. Some (a_function k)) (sym (same_function_is f g e)) ∙ ap (λ k. if k then Some (a_function f) else None) (sym e)
