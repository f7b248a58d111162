-- One function after the other.
use Rattle.std.proofs.Common.{◌≡◌, List, [], ◌∷◌, ◌++◌, length, map, refl, sym, ap, ◌∙◌, subst, arith}
use Rattle.std.proofs.lemmas.List.{map-append, append_assoc}
use Rattle.frames_code.specs.declared.code.Function.{Function as Held}
use Rattle.frames_code.specs.Code.{Function, function_of}
use Rattle.frames_opt.specs.declared.facts.Known.{Known}
use Rattle.frames_opt.specs.inside.Facts.{held}
use Rattle.frames_opt.specs.layer.Functions.{IsSimplerFunction, AreSimpler}

no_more : {A : Type 0} (xs : List A) → xs ++ [] ≡ xs
no_more [] = refl
no_more (x ∷ xs) = ap (λ ys. x ∷ ys) (no_more xs)

abbrev pub Continued : (all left made : List Held) → Type 0
Continued all left made = (more : List Function) → AreSimpler (map function_of left) more → AreSimpler (map function_of all) (map function_of made ++ more)

pub one_more_simpler : (all left rest : List Held) (x y : Held) (old made : List Held) → left ≡ x ∷ rest → made ≡ old ++ y ∷ [] → IsSimplerFunction (function_of x) (function_of y) → Continued all left old → Continued all rest made
one_more_simpler all left rest x y old made split put is before more done =
    let held : AreSimpler (map function_of left) (function_of y ∷ more) = subst (λ xs. AreSimpler (map function_of xs) (function_of y ∷ more)) (sym split) (is, done) in
    let list : map function_of made ++ more ≡ map function_of old ++ function_of y ∷ more =
    ap (λ xs. map function_of xs ++ more) put ∙ ap (λ xs. xs ++ more) (map-append function_of old (y ∷ [])) ∙ append_assoc (map function_of old) (function_of y ∷ []) more in
    subst (AreSimpler (map function_of all)) (sym list) (before (function_of y ∷ more) held)

empty : {A : Type 0} (xs : List A) → length xs ≡ 0 → xs ≡ []
empty [] e = refl
empty (x ∷ xs) e = absurd (omega (arith, e))

pub all_simpler : (all left made : List Held) → length left ≡ 0 → Continued all left made → AreSimpler (map function_of all) (map function_of made)
all_simpler all left made end done =
    let none : AreSimpler (map function_of left) [] = subst (λ xs. AreSimpler (map function_of xs) []) (sym (empty left end)) tt in
    subst (AreSimpler (map function_of all)) (no_more (map function_of made)) (done [] none)

-- ---- eight facts

first_and : (a b : Known) (xs ys : List Known) → a ≡ b → xs ≡ ys → a ∷ xs ≡ b ∷ ys
first_and a b xs ys e g = cc

eight : (f : Known → Known) (l : List Known) → length l ≡ 8
    → f (held l 0) ∷ f (held l 1) ∷ f (held l 2) ∷ f (held l 3) ∷ f (held l 4) ∷ f (held l 5) ∷ f (held l 6) ∷ f (held l 7) ∷ [] ≡ map f l
eight f [] e = absurd (omega (arith, e))
eight f (x0 ∷ []) e = absurd (omega (arith, e))
eight f (x0 ∷ x1 ∷ []) e = absurd (omega (arith, e))
eight f (x0 ∷ x1 ∷ x2 ∷ []) e = absurd (omega (arith, e))
eight f (x0 ∷ x1 ∷ x2 ∷ x3 ∷ []) e = absurd (omega (arith, e))
eight f (x0 ∷ x1 ∷ x2 ∷ x3 ∷ x4 ∷ []) e = absurd (omega (arith, e))
eight f (x0 ∷ x1 ∷ x2 ∷ x3 ∷ x4 ∷ x5 ∷ []) e = absurd (omega (arith, e))
eight f (x0 ∷ x1 ∷ x2 ∷ x3 ∷ x4 ∷ x5 ∷ x6 ∷ []) e = absurd (omega (arith, e))
eight f (x0 ∷ x1 ∷ x2 ∷ x3 ∷ x4 ∷ x5 ∷ x6 ∷ x7 ∷ []) e = refl
eight f (x0 ∷ x1 ∷ x2 ∷ x3 ∷ x4 ∷ x5 ∷ x6 ∷ x7 ∷ x8 ∷ rest) e = absurd (omega (arith, e))

pub each_of_eight : (f : Known → Known) (l : List Known) → length l ≡ 8 → (a0 a1 a2 a3 a4 a5 a6 a7 : Known)
    → a0 ≡ f (held l 0) → a1 ≡ f (held l 1) → a2 ≡ f (held l 2) → a3 ≡ f (held l 3) → a4 ≡ f (held l 4) → a5 ≡ f (held l 5) → a6 ≡ f (held l 6) → a7 ≡ f (held l 7)
    → a0 ∷ a1 ∷ a2 ∷ a3 ∷ a4 ∷ a5 ∷ a6 ∷ a7 ∷ [] ≡ map f l
each_of_eight f l n a0 a1 a2 a3 a4 a5 a6 a7 e0 e1 e2 e3 e4 e5 e6 e7 =
    first_and a0 _ _ _ e0 (first_and a1 _ _ _ e1 (first_and a2 _ _ _ e2 (first_and a3 _ _ _ e3 (first_and a4 _ _ _ e4 (first_and a5 _ _ _ e5 (first_and a6 _ _ _ e6 (first_and a7 _ _ _ e7 refl)))))))
    ∙ eight f l n
