-- Names by their numbers and by their texts.
use Rattle.std.proofs.Common.{◌≡◌, ℕ, zero, suc, ◌<◌, ◌≤◌, List, [], ◌∷◌, Bool, true, false, nat_eq, not, ◌||◌, ◌++◌, if◌then◌else◌, Some, length, slice_get, refl, sym, ap, ◌∙◌, arith}
use Rattle.std.proofs.lemmas.Bool.{eqb-true, eq-eqb}
use Rattle.std.proofs.lemmas.Slice.Eq.{bytes_eq-Decides}
use Rattle.std.specs.List.{list_any, filter}
use Rattle.std.specs.Str.{bytes_eq}
use Rattle.srcset.specs.NameTable.{Texts, NumbersOnce}
use Rattle.std.proofs.lemmas.List.{map-append}
use Rattle.macros_substitution.specs.HideSets.{Sets, members, is_new, united as united_numbers, name_of, spelled, Extends, AreBelow, NamesBelow}
use Rattle.macros_substitution.specs.Substitution.{is_hidden, common, united}
use Rattle.macros_substitution.proofs.Tables.{members_below}

has_text : (texts : Texts) (n : ℕ) → n < length texts → slice_get texts n ≡ Some (name_of texts n)
has_text [] n h = absurd (omega arith)
has_text (t ∷ texts) zero h = refl
has_text (t ∷ texts) (suc n) h = has_text texts n (omega arith)

same_name : (texts : Texts) (m n : ℕ) → NumbersOnce texts → m < length texts → n < length texts → bytes_eq (name_of texts m) (name_of texts n) ≡ nat_eq m n
same_name texts m n once p q = by (nat_eq m n) refl
  where
    other : (b : Bool) → bytes_eq (name_of texts m) (name_of texts n) ≡ b → nat_eq m n ≡ false → b ≡ false
    other false e f = refl
    other true e f =
        let t : name_of texts m ≡ name_of texts n = (bytes_eq-Decides _ _).0 e in
        let k : m ≡ n = once m n (name_of texts m) (has_text texts m p) (has_text texts n q ∙ ap Some (sym t)) in
        sym (eq-eqb m n k) ∙ f

    by : (b : Bool) → nat_eq m n ≡ b → bytes_eq (name_of texts m) (name_of texts n) ≡ b
    by true e = (bytes_eq-Decides _ _).1 (ap (name_of texts) (eqb-true m n e))
    by false e = other (bytes_eq (name_of texts m) (name_of texts n)) refl e

-- a name is among names where its number is among theirs
pub hidden_name : (texts : Texts) (n : ℕ) (ns : List ℕ) → NumbersOnce texts → n < length texts → AreBelow (length texts) ns
    → is_hidden (name_of texts n) (spelled texts ns) ≡ list_any (nat_eq n) ns
hidden_name texts n [] once p q = refl
hidden_name texts n (m ∷ ns) once p q =
    ap (λ b. b || is_hidden (name_of texts n) (spelled texts ns)) (same_name texts n m once p q.0)
    ∙ ap (λ b. nat_eq n m || b) (hidden_name texts n ns once p q.1)

-- the names that two sets have in common, by the names' texts
pub common_names : (texts : Texts) (ms ns : List ℕ) → NumbersOnce texts → AreBelow (length texts) ms → AreBelow (length texts) ns
    → common (spelled texts ms) (spelled texts ns) ≡ spelled texts (filter (λ n. list_any (nat_eq n) ns) ms)
common_names texts [] ns once p q = refl
common_names texts (m ∷ ms) ns once p q =
    ap (λ b. if b then name_of texts m ∷ common (spelled texts ms) (spelled texts ns) else common (spelled texts ms) (spelled texts ns)) (hidden_name texts m ns once p.0 q)
    ∙ by (common_names texts ms ns once p.1 q) (list_any (nat_eq m) ns)
  where
    by : common (spelled texts ms) (spelled texts ns) ≡ spelled texts (filter (λ n. list_any (nat_eq n) ns) ms) → (b : Bool)
        → (if b then name_of texts m ∷ common (spelled texts ms) (spelled texts ns) else common (spelled texts ms) (spelled texts ns))
        ≡ spelled texts (if b then m ∷ filter (λ n. list_any (nat_eq n) ns) ms else filter (λ n. list_any (nat_eq n) ns) ms)
    by e true = ap (λ t. name_of texts m ∷ t) e
    by e false = e

-- the set that was made of both, as each later table has it
pub common_later : (texts : Texts) (old now later : Sets) (a b made : ℕ) → NumbersOnce texts → NamesBelow (length texts) old → Extends old now → Extends now later
    → a ≤ length old → b ≤ length old → made ≤ length now → members now made ≡ filter (λ n. list_any (nat_eq n) (members old b)) (members old a)
    → common (spelled texts (members later a)) (spelled texts (members later b)) ≡ spelled texts (members later made)
common_later texts old now later a b made once below before grown p q m e =
    let first : members later a ≡ members old a = grown.same a (omega (arith, before.longer)) ∙ before.same a p in
    let second : members later b ≡ members old b = grown.same b (omega (arith, before.longer)) ∙ before.same b q in
    rw (first, second) (common_names texts (members old a) (members old b) once (members_below (length texts) old a below) (members_below (length texts) old b below)
    ∙ ap (spelled texts) (sym e ∙ sym (grown.same made m)))

new_names : (texts : Texts) (ms ns : List ℕ) → NumbersOnce texts → AreBelow (length texts) ms → AreBelow (length texts) ns
    → filter (λ name. not (is_hidden name (spelled texts ns))) (spelled texts ms) ≡ spelled texts (filter (is_new ns) ms)
new_names texts [] ns once p q = refl
new_names texts (m ∷ ms) ns once p q =
    ap (λ b. if not b then name_of texts m ∷ all (spelled texts ms) else all (spelled texts ms)) (hidden_name texts m ns once p.0 q)
    ∙ by (new_names texts ms ns once p.1 q) (list_any (nat_eq m) ns)
  where
    all : List (List ℕ) → List (List ℕ)
    all names = filter (λ name. not (is_hidden name (spelled texts ns))) names

    by : all (spelled texts ms) ≡ spelled texts (filter (is_new ns) ms) → (b : Bool)
        → (if not b then name_of texts m ∷ all (spelled texts ms) else all (spelled texts ms))
        ≡ spelled texts (if not b then m ∷ filter (is_new ns) ms else filter (is_new ns) ms)
    by e true = e
    by e false = ap (λ t. name_of texts m ∷ t) e

-- the names of either by their texts
pub united_names : (texts : Texts) (ms ns : List ℕ) → NumbersOnce texts → AreBelow (length texts) ms → AreBelow (length texts) ns
    → spelled texts (united_numbers ms ns) ≡ united (spelled texts ms) (spelled texts ns)
united_names texts ms ns once p q =
    map-append (λ n. name_of texts n) (filter (is_new ns) ms) ns
    ∙ ap (λ t. t ++ spelled texts ns) (sym (new_names texts ms ns once p q))
