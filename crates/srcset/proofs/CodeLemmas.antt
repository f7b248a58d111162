-- The number of a code gives the code, and a number is looked up in its group alone.
use Rattle.std.proofs.Common.{◌≡◌, ◌≤◌, ℕ, ◌/◌, List, [], ◌∷◌, Some, None, Bool, true, false, cond, nat_eq, refl, sym, ap, ◌∙◌, lit≤}
use Rattle.std.specs.List.{find, filter}
use Rattle.std.proofs.lemmas.Bool.{eqb-true, eq-eqb, false_from_ne_true}
use Rattle.srcset.specs.declared.code.Code.{Code}
use Rattle.srcset.specs.declared.code.Code.TheVariants as code
use Rattle.srcset.specs.Codes.{number_of, code_with, all_codes}
use Rattle.srcset.specs.inside.CodeGroups.{code_in_group}

-- so the list of all codes leaves none out, and no two have one number
pub code_with-number_of : (c : Code) → code_with (number_of c) ≡ Some c
unfolding code_with all_codes
code_with-number_of code.FileGivenTwice = refl
code_with-number_of _ = refl

-- where each element that is sought is kept, it is found among those that are kept
module _ {A : Type 0} (sought kept : A → Bool) (is_kept : (x : A) → sought x ≡ true → kept x ≡ true) where
  one_more : (b : Bool) (x : A) (xs ys : List A) → kept x ≡ b → find sought xs ≡ find sought ys → find sought (x ∷ xs) ≡ find sought (cond b (x ∷ ys) ys)
  one_more true x xs ys k same = ap (cond (sought x) (Some x)) same
  one_more false x xs ys k same =
      let not_sought : sought x ≡ false = false_from_ne_true (sought x) (λ s. let both : true ≡ false = sym (is_kept x s) ∙ k in cc) in
      ap (λ b. cond b (Some x) (find sought xs)) not_sought ∙ same

  find-filter : (xs : List A) → find sought xs ≡ find sought (filter kept xs)
  find-filter [] = refl
  find-filter (x ∷ xs) = one_more (kept x) x xs (filter kept xs) refl (find-filter xs)

same_hundred : (n m : ℕ) → nat_eq n m ≡ true → nat_eq (m / 100) (n / 100) ≡ true
same_hundred n m e = eq-eqb (m / 100) (n / 100) (ap (λ k. k / 100) (sym (eqb-true n m e)))

pub code_with_is_in_its_group : (n : ℕ) → code_with n ≡ code_in_group (n / 100) n
unfolding code_with code_in_group
code_with_is_in_its_group n = find-filter (λ c. nat_eq n (number_of c)) (λ c. nat_eq (number_of c / 100) (n / 100)) (λ c. same_hundred n (number_of c)) all_codes

-- so a number that begins otherwise is none
digit_of_number : (c : Code) → (1 ≤ number_of c / 100) × (number_of c / 100 ≤ 9)
digit_of_number code.FileGivenTwice = (lit≤ tt, lit≤ tt)
digit_of_number _ = (lit≤ tt, lit≤ tt)

module _ {A : Type 0} (sought : A → Bool) (none_is : (x : A) → sought x ≡ true → ⊥) where
  find-none : (xs : List A) → find sought xs ≡ None
  find-none [] = refl
  find-none (x ∷ xs) = ap (λ b. cond b (Some x) (find sought xs)) (false_from_ne_true (sought x) (none_is x)) ∙ find-none xs

not_number_of : (n : ℕ) → (1 ≤ n / 100 → n / 100 ≤ 9 → ⊥) → (c : Code) → nat_eq n (number_of c) ≡ true → ⊥
not_number_of n outside c e =
    let same : n ≡ number_of c = eqb-true n (number_of c) e in
    outside (rw same (digit_of_number c).0) (rw same (digit_of_number c).1)

pub no_code_outside : (n : ℕ) → (1 ≤ n / 100 → n / 100 ≤ 9 → ⊥) → code_with n ≡ None
unfolding code_with
no_code_outside n outside = find-none (λ c. nat_eq n (number_of c)) (not_number_of n outside) all_codes
