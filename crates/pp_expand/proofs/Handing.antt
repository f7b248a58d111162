-- Tokens appended to others, up to a maximum count.
use Rattle.std.specs.Prelude.{take}
use Rattle.std.proofs.Common.{◌≡◌, ℕ, zero, suc, ◌-◌, ◌<◌, ◌≤◌, List, [], ◌∷◌, ◌++◌, map, length, Result, Ok, Err, refl, sym, ap, subst, arith, append_assoc, append-nil, length-append, ⊎_elim, ◌∙◌}
use Rattle.std.proofs.lemmas.Bool.{cases_lt}
use Rattle.std.proofs.lemmas.List.{take_all, length-take-le}
use Rattle.srcset.specs.NameTable.{Texts}
use Rattle.srcset.specs.declared.refusal.Refusal.{Refusal}
use Rattle.srcset.specs.declared.refusal.Refusal.TheVariants.{Memory, At, Told}
use Rattle.phases.specs.Token.{Token}
use Rattle.macros_substitution.specs.HideSets.{Sets}
use Rattle.macros_substitution.specs.declared.piece.HiddenToken.{HiddenToken}
use Rattle.macros_substitution.specs.Meaning.{hidden_all}
use Rattle.macros_substitution.specs.Substitution.{Hidden}
use Rattle.pp_expand.specs.Expansion.{Answer, Fault, behind as behind_one}
use Rattle.pp_expand.specs.Expands.{put_behind}
use Rattle.pp_expand.specs.Meaning.{behind, shown_behind, Refuses}

pub tokens_all : (texts : Texts) (sets : Sets) (xs : List HiddenToken) → map (λ x. x.token) (hidden_all texts sets xs) ≡ map (λ x. x.token) xs
tokens_all texts sets [] = refl
tokens_all texts sets (x ∷ xs) = ap (λ l. x.token ∷ l) (tokens_all texts sets xs)

-- ---- tokens appended to others, up to the maximum count

abbrev no_tokens : List Token
no_tokens = []

take_nothing : (k : ℕ) → take k no_tokens ≡ no_tokens
take_nothing zero = refl
take_nothing (suc k) = refl

pub put_nothing : (most : ℕ) (before : List Token) → put_behind most before [] ≡ before
put_nothing most before = ap (λ l. before ++ l) (take_nothing (most - length before)) ∙ append-nil before

take_again : (k : ℕ) (xs ys : List Token) → take k xs ++ take (k - length (take k xs)) ys ≡ take k (xs ++ ys)
take_again zero xs ys = refl
take_again (suc k) [] ys =
    let n : suc k - 0 ≡ suc k = omega arith in
    ap (λ m. take m ys) n
take_again (suc k) (x ∷ xs) ys =
    let n : suc k - suc (length (take k xs)) ≡ k - length (take k xs) = omega arith in
    ap (λ m. x ∷ (take k xs ++ take m ys)) n ∙ ap (λ l. x ∷ l) (take_again k xs ys)

pub put_again : (most : ℕ) (before xs ys : List Token) → put_behind most (put_behind most before xs) ys ≡ put_behind most before (xs ++ ys)
put_again most before xs ys =
    let k = most - length before in
    let n : most - length (before ++ take k xs) ≡ k - length (take k xs) = omega (arith, length-append before (take k xs)) in
    append_assoc before (take k xs) (take (most - length (before ++ take k xs)) ys)
    ∙ ap (λ m. before ++ (take k xs ++ take m ys)) n
    ∙ ap (λ l. before ++ l) (take_again k xs ys)

pub one_kept : (most : ℕ) (before : List Token) (x : Token) → length before < most → before ++ x ∷ [] ≡ put_behind most before (x ∷ [])
one_kept most before x h =
    let n : most - length before ≡ suc (most - length before - 1) = omega (arith, h) in
    sym (ap (λ m. before ++ take m (x ∷ [])) n ∙ ap (λ l. before ++ x ∷ l) (take_nothing (most - length before - 1)))

pub one_dropped : (most : ℕ) (before : List Token) (x : Token) → most ≤ length before → before ≡ put_behind most before (x ∷ [])
one_dropped most before x h =
    let n : most - length before ≡ 0 = omega (arith, h) in
    sym (ap (λ m. before ++ take m (x ∷ [])) n ∙ append-nil before)

-- where they are fewer, all are there
pub all_kept : (most : ℕ) (before list : List Token) → length (put_behind most before list) < most → put_behind most before list ≡ before ++ list
all_kept most before list h =
    let fewer : length (before ++ take (most - length before) list) < most = h in
    ⊎_elim
    (λ (p : most - length before < length list). absurd (omega (arith, fewer, p, length-append before (take (most - length before) list), length-take-le (most - length before) list (omega (arith, p)))))
    (λ (p : length list ≤ most - length before). ap (λ l. before ++ l) (take_all (most - length before) list p))
    (cases_lt (most - length before) (length list))

-- a token that is final may be delivered before the rest is expanded
pub given_first : (most : ℕ) (given : List Token) (x : Hidden) (a : Answer) → shown_behind most given (behind_one x a) ≡ shown_behind most (put_behind most given (x.token ∷ [])) a
given_first most given x (Ok a) =
    ap (λ (l : List Token). Ok (l, a.1)) (sym (put_again most given (x.token ∷ []) (map (λ x. x.token) a.0)))
given_first most given x (Err e) = refl

-- the expanded list, appended to the tokens delivered before
pub record Behind (most : ℕ) (before all : List Token) (left : ℕ) (r : Result (List Token × ℕ) Fault) : Type 0 where
  pub list : List Token
  pub list_is : r ≡ Ok (list, left)
  pub all_is : all ≡ put_behind most before list

count_in : ℕ → Result (List Token × ℕ) Fault → ℕ
count_in n (Ok a) = a.1
count_in n (Err e) = n

tokens_in : Result (List Token × ℕ) Fault → List Token
tokens_in (Ok a) = a.0
tokens_in (Err e) = []

IsGiven : Result (List Token × ℕ) Fault → Type 0
IsGiven (Ok a) = Unit {0}
IsGiven (Err e) = ⊥

pub behind_ok : (most : ℕ) (before all : List Token) (left : ℕ) (r : Result (List Token × ℕ) Fault) → behind most before r ≡ Ok (all, left) → Behind most before all left r
unfolding count_in tokens_in IsGiven
behind_ok most before all left (Ok a) e = record {
  list = a.0;
  list_is = ap (λ (n : ℕ). let r : Result (List Token × ℕ) Fault = Ok (a.0, n) in r) (ap (count_in left) e);
  all_is = sym (ap tokens_in e);
}
behind_ok most before all left (Err f) e = absurd (subst IsGiven (sym e) tt)

pub behind_err : (most : ℕ) (before : List Token) (f : Refusal) (r : Result (List Token × ℕ) Fault) → Refuses f (behind most before r) → Refuses f r
unfolding IsGiven
behind_err most before Memory r h = tt
behind_err most before (At c pos) (Ok a) h = absurd (subst IsGiven h tt)
behind_err most before (At c pos) (Err e) h = h
behind_err most before (Told c pos text) r h = h
