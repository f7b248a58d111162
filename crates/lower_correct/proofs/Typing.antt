-- The facts that the constraints give of the parts of an expression.
use Rattle.std.proofs.Common.{◌≡◌, ℕ, zero, suc, List, [], ◌∷◌, Option, Some, None, Bool, true, false, not, ◌&&◌, ◌||◌, refl, sym, ap, ◌∙◌, arith}
use Rattle.std.specs.Prelude.{nat_eq, length, slice_get}
use Rattle.std.proofs.lemmas.Bool.Decides.{nat_tests}
use Rattle.ctypes.specs.declared.types.IntType.{IntType}
use Rattle.ctypes.specs.declared.types.IntType.TheVariants as ty
use Rattle.typing_spec.specs.Types.{ObjectType, FunctionType, same_type, place_of, same_result}
use Rattle.typing_spec.specs.Program.{Callee, Program}
use Rattle.typing_spec.specs.Nodes.{object_type}
use Rattle.typing_spec.specs.WellTyped.{is_scalar, some_number, callee_type, call_fits}
use Rattle.lower_correct.proofs.Words.{differ, left_true, right_true}
use Rattle.lower_correct.proofs.Leaves.{IsNumber}

type_from : ℕ → IntType
type_from zero = ty.Bool
type_from (suc zero) = ty.Char
type_from (suc (suc zero)) = ty.SChar
type_from (suc (suc (suc zero))) = ty.UChar
type_from (suc (suc (suc (suc zero)))) = ty.Short
type_from (suc (suc (suc (suc (suc zero))))) = ty.UShort
type_from (suc (suc (suc (suc (suc (suc zero)))))) = ty.Int
type_from (suc (suc (suc (suc (suc (suc (suc zero))))))) = ty.UInt
type_from (suc (suc (suc (suc (suc (suc (suc (suc zero)))))))) = ty.Long
type_from (suc (suc (suc (suc (suc (suc (suc (suc (suc n))))))))) = ty.ULong

type_back : (t : IntType) → type_from (place_of t) ≡ t
unfolding type_from
type_back ty.Bool = refl
type_back ty.Char = refl
type_back ty.SChar = refl
type_back ty.UChar = refl
type_back ty.Short = refl
type_back ty.UShort = refl
type_back ty.Int = refl
type_back ty.UInt = refl
type_back ty.Long = refl
type_back ty.ULong = refl

pub same_type_is : (a b : IntType) → same_type a b ≡ true → a ≡ b
same_type_is a b e = let same : place_of a ≡ place_of b = grind (arith, nat_tests) in sym (type_back a) ∙ (ap type_from same ∙ type_back b)

pub same_result_is : (a b : Option IntType) → same_result a b ≡ true → a ≡ b
same_result_is None None e = refl
same_result_is (Some a) (Some b) e = ap Some (same_type_is a b e)
same_result_is None (Some b) e = absurd (differ e)
same_result_is (Some a) None e = absurd (differ e)

pub no_length : (l : List ℕ) → nat_eq (length l) 0 ≡ true → l ≡ []
no_length [] e = refl
no_length (n ∷ l) e = absurd (let z : ⊥ = grind (arith, nat_tests) in z)

-- an object that is read or written to
pub number_is : (objects : List ObjectType) (x : ℕ) (u : IntType) (o : Option ObjectType) → slice_get objects x ≡ o → is_scalar u (object_type o) ≡ true
    → IsNumber objects x u
number_is objects x u None e h = absurd (differ h)
number_is objects x u (Some t) e h = record {
  type = t;
  at = e;
  element = sym (same_type_is u t.element (left_true (same_type u t.element) (nat_eq (length t.lengths) 0) h));
  lengths = no_length t.lengths (right_true (same_type u t.element) (nat_eq (length t.lengths) 0) h);
}

-- the callee has a type, whose result is that of the call
pub record IsCalled (p : Program) (callee : Callee) (result : Option IntType) : Type 0 where
  pub type : FunctionType
  pub has : callee_type p callee ≡ Some type
  pub gives : type.result ≡ result

pub call_is : (p : Program) (callee : Callee) (result : Option IntType) (used : Bool) (o : Option FunctionType) → callee_type p callee ≡ o
    → call_fits result used o ≡ true → IsCalled p callee result
call_is p callee result used None e h = absurd (differ h)
call_is p callee result used (Some type) e h =
    record {
      type = type;
      has = e;
      gives = sym (same_result_is result type.result
          (left_true (same_result result type.result) (not used || some_number result) h));
    }

-- the same of a built-in function
pub call_result : (result : Option IntType) (used : Bool) (type : FunctionType) → call_fits result used (Some type) ≡ true → result ≡ type.result
call_result result used type h = same_result_is result type.result (left_true (same_result result type.result) (not used || some_number result) h)

pub and_both : (a b : Bool) → a ≡ true → b ≡ true → (a && b) ≡ true
and_both true b h g = g
and_both false b h g = absurd (differ h)
