-- Elements by their numbers: the paths that lead to them, and their places.
use Rattle.std.proofs.Common.{◌≡◌, ℕ, zero, suc, ◌+◌, ◌-◌, ◌*◌, ◌<◌, ◌≤◌, List, [], ◌∷◌, Bool, true, false, Option, Some, None, refl, sym, ap, ◌∙◌, subst, arith}
use Rattle.std.specs.Prelude.{option_map, nat_lt, if◌then◌else◌}
use Rattle.std.proofs.lemmas.Bool.Decides.{nat_tests}
use Rattle.typing_spec.specs.Types.{elements_in}
use Rattle.csem.specs.Store.{Tree, Element, Array, Row, no_parts, and_part, parts}
use Rattle.tac_code.specs.Run.{elements_of, path_of, path_in, first_of, first_in}
use Rattle.frames_correct.specs.Matched.{elements_before, IsPath, EachPart, Shaped}
use Rattle.frames_correct.proofs.Lists.{same_some}
use Rattle.frames_correct.proofs.Trees.{count_elements}
use Rattle.frames_correct.proofs.Values.{gave}

-- ---- the path of an element

-- it is one within these lengths, with i elements before it
pub record Found (lengths path : List ℕ) (i : ℕ) : Type 0 where
  pub within : IsPath lengths path
  pub number : elements_before lengths path ≡ i

-- one in a row of n parts, the first of which has number k
record FoundIn (lengths path : List ℕ) (k n i : ℕ) : Type 0 where
  pub part : ℕ
  pub rest : List ℕ
  pub is : (k + part) ∷ rest ≡ path
  pub below : part < n
  pub within : IsPath lengths rest
  pub number : part * elements_in lengths + elements_before lengths rest ≡ i

abbrev Finds : List ℕ → Type 0
Finds lengths = (t : Tree) (i : ℕ) (path : List ℕ) → Shaped lengths t → path_of t i ≡ Some path → Found lengths path i

more_parts : (p e b i : ℕ) → e ≤ i → p * e + b ≡ i - e → suc p * e + b ≡ i
more_parts p e b i le h = let s : suc p * e ≡ e + p * e = grind arith in omega (arith, le, h, s)

first_part : (e b i : ℕ) → b ≡ i → 0 * e + b ≡ i
first_part e b i h = let s : 0 * e ≡ 0 = grind arith in omega (arith, h, s)

at_least : (i e : ℕ) → nat_lt i e ≡ false → e ≤ i
at_least i e h = grind (arith, nat_tests)

no_more : (k : ℕ) (rest : List ℕ) → (k + 0) ∷ rest ≡ k ∷ rest
no_more k rest = ap (λ j. j ∷ rest) (let e : k + 0 ≡ k = omega arith in e)

one_later : (k p : ℕ) (rest : List ℕ) → (k + suc p) ∷ rest ≡ (suc k + p) ∷ rest
one_later k p rest = ap (λ j. j ∷ rest) (let e : k + suc p ≡ suc k + p = omega arith in e)

from_zero : (p : ℕ) (rest : List ℕ) → p ∷ rest ≡ (0 + p) ∷ rest
from_zero p rest = ap (λ j. j ∷ rest) (let e : p ≡ 0 + p = omega arith in e)

-- in the first part, or after it
one_of_row : (lengths : List ℕ) (t : Tree) (row : Row) (k i : ℕ) (path : List ℕ) → Shaped lengths t → Finds lengths
    → ((j : ℕ) → path_in row (suc k) j ≡ Some path → FoundIn lengths path (suc k) (parts row) j) → path_in (and_part t row) k i ≡ Some path
    → FoundIn lengths path k (suc (parts row)) i
one_of_row lengths t row k i path h each more e = by_test (nat_lt i (elements_of t)) refl e
  where
    by_test : (b : Bool) → nat_lt i (elements_of t) ≡ b → (if b then option_map (λ path. k ∷ path) (path_of t i) else path_in row (suc k) (i - elements_of t)) ≡ Some path → FoundIn lengths path k (suc (parts row)) i
    by_test true lt e2 =
        let g = gave (λ rest. k ∷ rest) (path_of t i) path e2 in
        let one = each t i g.from h g.from_is in
        record { part = 0; rest = g.from; is = no_more k g.from ∙ g.is; below = omega arith; within = one.within; number = first_part (elements_in lengths) (elements_before lengths g.from) i one.number }
    by_test false ge e2 =
        let others = more (i - elements_of t) e2 in
        let count = count_elements lengths t h in
        let le : elements_in lengths ≤ i = subst (λ n. n ≤ i) count (at_least i (elements_of t) ge) in
        record {
          part = suc others.part;
          rest = others.rest;
          is = one_later k others.part others.rest ∙ others.is;
          below = omega (arith, others.below);
          within = others.within;
          number = more_parts others.part (elements_in lengths) (elements_before lengths others.rest) i le (others.number ∙ ap (λ n. i - n) count);
        }

found_in : (lengths : List ℕ) (row : Row) (k i : ℕ) (path : List ℕ) → EachPart (Shaped lengths) row → path_in row k i ≡ Some path → Finds lengths → FoundIn lengths path k (parts row) i
found_in lengths no_parts k i path h e each = absurd (let z : ⊥ = cc in z)
found_in lengths (and_part t row) k i path h e each =
    one_of_row lengths t row k i path h.0 each (λ j e2. found_in lengths row (suc k) j path h.1 e2 each) e

pub path_found : (lengths : List ℕ) → Finds lengths
path_found [] (Element v) zero path h e = let same : [] ≡ path = same_some [] path e in record { within = subst (IsPath []) same tt; number = refl }
path_found [] (Element v) (suc i) path h e = absurd (let z : ⊥ = cc in z)
path_found [] (Array row) i path h e = absurd h
path_found (n ∷ lengths) (Element v) i path h e = absurd h
path_found (n ∷ lengths) (Array row) i path h e =
    let f = found_in lengths row 0 i path h.1 e (path_found lengths) in
    let below : f.part < n = subst (λ k. f.part < k) h.0 f.below in
    let is : f.part ∷ f.rest ≡ path = from_zero f.part f.rest ∙ f.is in
    record {
      within = subst (IsPath (n ∷ lengths)) is (below, f.within);
      number = ap (elements_before (n ∷ lengths)) (sym is) ∙ f.number;
    }

-- ---- the first element of a part

first_in_row : (lengths : List ℕ) (row : Row) (j : ℕ) (path : List ℕ) → EachPart (Shaped lengths) row → j < parts row → ((t : Tree) → Shaped lengths t → first_of t path ≡ elements_before lengths path) → first_in row j path ≡ j * elements_in lengths + elements_before lengths path
first_in_row lengths no_parts j path h lt each = absurd (omega (arith, lt))
first_in_row lengths (and_part t row) zero path h lt each = each t h.0 ∙ sym (first_part (elements_in lengths) (elements_before lengths path) (elements_before lengths path) refl)
first_in_row lengths (and_part t row) (suc j) path h lt each =
    let more = first_in_row lengths row j path h.1 (omega (arith, lt)) each in
    let count = count_elements lengths t h.0 in
    let s : suc j * elements_in lengths ≡ elements_in lengths + j * elements_in lengths = grind arith in
    omega (arith, more, count, s)

pub first_is : (lengths path : List ℕ) (t : Tree) → Shaped lengths t → IsPath lengths path → first_of t path ≡ elements_before lengths path
first_is [] path (Element v) h p = refl
first_is [] path (Array row) h p = absurd h
first_is (n ∷ lengths) path (Element v) h p = absurd h
first_is (n ∷ lengths) [] (Array row) h p = refl
first_is (n ∷ lengths) (j ∷ path) (Array row) h p =
    first_in_row lengths row j path h.1 (subst (λ k. j < k) (sym h.0) p.0) (λ t ht. first_is lengths path t ht p.1)
