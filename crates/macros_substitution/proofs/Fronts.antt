-- Laws of tokens with hide sets, and of the tokens that a replacement puts in front.
use Rattle.std.proofs.Common.{◌≡◌, ℕ, ◌≤◌, List, [], ◌∷◌, ◌++◌, Bool, true, false, ◌==◌, length, refl, sym, ap, ◌∙◌, arith, append_assoc}
use Rattle.std.proofs.Math.Dec.{eqb-suc-zero}
use Rattle.std.proofs.lemmas.List.{map-append}
use Rattle.srcset.specs.NameTable.{Texts, NumbersOnce}
use Rattle.phases.specs.Token.{Token}
use Rattle.macros_substitution.specs.declared.piece.HiddenToken.{HiddenToken}
use Rattle.macros_substitution.specs.HideSets.{Sets, members, united as united_numbers, spelled, Extends, NamesBelow}
use Rattle.macros_substitution.specs.Meaning.{hidden_of, hidden_all, AreIn}
use Rattle.macros_substitution.specs.Substitution.{Hidden, united, marked, hiding}
use Rattle.macros_substitution.specs.inside.Both.{IsBoth}
use Rattle.macros_substitution.specs.inside.Steps.{mark_if}
use Rattle.macros_substitution.proofs.Tables.{members_below, united_nothing}
use Rattle.macros_substitution.proofs.Names.{united_names}

pub are_in_more : (m n : ℕ) (xs : List HiddenToken) → m ≤ n → AreIn m xs → AreIn n xs
are_in_more m n [] h p = tt
are_in_more m n (x ∷ xs) h p = (omega (arith, p.0), are_in_more m n xs h p.1)

pub are_in_split : (n : ℕ) (xs ys : List HiddenToken) → AreIn n (xs ++ ys) → AreIn n xs × AreIn n ys
are_in_split n [] ys p = (tt, p)
are_in_split n (x ∷ xs) ys p = let q = are_in_split n xs ys p.1 in ((p.0, q.0), q.1)

pub are_in_append : (n : ℕ) (xs ys : List HiddenToken) → AreIn n xs → AreIn n ys → AreIn n (xs ++ ys)
are_in_append n [] ys p q = q
are_in_append n (x ∷ xs) ys p q = (p.0, are_in_append n xs ys p.1 q)

abbrev none_of : {X : Type 0} → List X → Bool
none_of [] = true
none_of (x ∷ xs) = false

none_counted : {X : Type 0} (xs : List X) → (length xs == 0) ≡ none_of xs
none_counted [] = refl
none_counted (x ∷ xs) = eqb-suc-zero (length xs)

marked_append : (space : Bool) (xs : List Hidden) (x : Hidden) (ys : List Hidden)
    → marked space (xs ++ x ∷ []) ++ ys ≡ marked space xs ++ record { token = mark_if (none_of xs) space x.token; hides = x.hides } ∷ ys
marked_append space [] x ys = refl
marked_append space (z ∷ xs) x ys =
    ap (λ t. record { token = record z.token { space_before = space }; hides = z.hides } ∷ t) (append_assoc xs (x ∷ []) ys)

hiding_append : (names : List (List ℕ)) (xs : List Hidden) (x : Hidden) → hiding names (xs ++ x ∷ []) ≡ hiding names xs ++ record { token = x.token; hides = united names x.hides } ∷ []
hiding_append names [] x = refl
hiding_append names (y ∷ xs) x = ap (λ t. record { token = y.token; hides = united names y.hides } ∷ t) (hiding_append names xs x)

none_hiding : (texts : Texts) (sets : Sets) (names : List (List ℕ)) (xs : List HiddenToken) → none_of (hiding names (hidden_all texts sets xs)) ≡ none_of xs
none_hiding texts sets names [] = refl
none_hiding texts sets names (x ∷ xs) = refl

pub hidden_append : (texts : Texts) (sets : Sets) (xs ys : List HiddenToken) → hidden_all texts sets (xs ++ ys) ≡ hidden_all texts sets xs ++ hidden_all texts sets ys
hidden_append texts sets xs ys = map-append (λ x. hidden_of texts sets x) xs ys

-- ---- one more token put in front of the rest

front_step : (space : Bool) (names : List (List ℕ)) (xs : List Hidden) (x : Hidden) (ys : List Hidden)
    → marked space (hiding names xs) ++ record { token = mark_if (none_of (hiding names xs)) space x.token; hides = united names x.hides } ∷ ys
    ≡ marked space (hiding names (xs ++ x ∷ [])) ++ ys
front_step space names xs x ys =
    let e = hiding_append names xs x in
    rw e (sym (marked_append space (hiding names xs) (record { token = x.token; hides = united names x.hides }) ys))

pub front_put : (texts : Texts) (later : Sets) (space first : Bool) (hides : ℕ) (items xs : List HiddenToken) (x : HiddenToken) (token : Token) (made : ℕ) (rest after : List HiddenToken)
    → items ≡ xs ++ x ∷ [] → first ≡ (length xs == 0) → token ≡ mark_if first space x.token
    → spelled texts (members later made) ≡ united (spelled texts (members later hides)) (spelled texts (members later x.hides))
    → after ≡ record { token = token; hides = made } ∷ rest
    → marked space (hiding (spelled texts (members later hides)) (hidden_all texts later xs)) ++ hidden_all texts later after
    ≡ marked space (hiding (spelled texts (members later hides)) (hidden_all texts later items)) ++ hidden_all texts later rest
front_put texts later space first hides items xs x token made rest after e f t hides_are a =
    let names : List (List ℕ) = spelled texts (members later hides) in
    let H : List HiddenToken → List Hidden = hidden_all texts later in
    let put : Token → List (List ℕ) → List Hidden = λ k ns. record { token = k; hides = ns } ∷ H rest in
    let first_is : token ≡ mark_if (none_of (hiding names (H xs))) space x.token =
    t ∙ ap (λ b. mark_if b space x.token) (f ∙ none_counted xs ∙ sym (none_hiding texts later names xs)) in
    ap (λ r. marked space (hiding names (H xs)) ++ H r) a
    ∙ ap (λ k. marked space (hiding names (H xs)) ++ put k (spelled texts (members later made))) first_is
    ∙ ap (λ ns. marked space (hiding names (H xs)) ++ put (mark_if (none_of (hiding names (H xs))) space x.token) ns) hides_are
    ∙ front_step space names (H xs) (hidden_of texts later x) (H rest)
    ∙ ap (λ i. marked space (hiding names i) ++ H rest) (sym (hidden_append texts later xs (x ∷ [])))
    ∙ ap (λ i. marked space (hiding names (H i)) ++ H rest) (sym e)

-- ---- two sets in one

pub both_at_first : (sets : Sets) (set : ℕ) → set ≤ length sets → IsBoth sets set (0, set)
both_at_first sets set h = record { behind = omega arith; known = h; both = sym (united_nothing (members sets set)) }

pub both_made : (old now : Sets) (set behind made : ℕ) → Extends old now → set ≤ length old → behind ≤ length old → made ≤ length now
    → members now made ≡ united_numbers (members old set) (members old behind) → IsBoth now set (behind, made)
both_made old now set behind made before p q m e = record {
  behind = omega (arith, before.longer);
  known = m;
  both = e ∙ ap (λ t. united_numbers t (members old behind)) (sym (before.same set p)) ∙ ap (λ t. united_numbers (members now set) t) (sym (before.same behind q));
}

pub both_later : (texts : Texts) (now later : Sets) (set behind made : ℕ) → NumbersOnce texts → NamesBelow (length texts) now → Extends now later → set ≤ length now → IsBoth now set (behind, made)
    → spelled texts (members later made) ≡ united (spelled texts (members later set)) (spelled texts (members later behind))
both_later texts now later set behind made once below grown p h =
    let of_set = grown.same set p in
    let of_behind = grown.same behind h.behind in
    rw (of_set, of_behind) (ap (spelled texts) (grown.same made h.known ∙ h.both)
    ∙ united_names texts (members now set) (members now behind) once (members_below (length texts) now set below) (members_below (length texts) now behind below))
