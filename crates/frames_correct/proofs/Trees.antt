-- Trees of elements, their shapes, and the places of their parts.
use Rattle.std.proofs.Common.{◌≡◌, ◌⊎◌, inl, inr, ⊎_elim, ℕ, zero, suc, ◌+◌, ◌-◌, ◌*◌, ◌<◌, ◌≤◌, List, [], ◌∷◌, ◌++◌, Option, Some, None, refl, sym, ap, ◌∙◌, subst, arith}
use Rattle.std.specs.Prelude.{ℤ}
use Rattle.std.proofs.lemmas.Bool.{cases_lt}
use Rattle.typing_spec.specs.Types.{elements_in}
use Rattle.csem.specs.Store.{Tree, Element, Array, Row, no_parts, and_part, parts, part_of, part_in, at_path, change_part, change_in, put_at, repeated, filled}
use Rattle.csem.specs.Laws.{Parts}
use Rattle.tac_code.specs.Run.{elements_of, elements_of_row}
use Rattle.frames_correct.specs.Matched.{elements_before, IsPath, IsElement, EachPart, Shaped}

-- ---- parts

pub at_none : (path : List ℕ) → at_path None path ≡ None
at_none [] = refl
at_none (i ∷ path) = at_none path

-- the rest of the lengths after a path
abbrev pub behind : (lengths path : List ℕ) → List ℕ
behind lengths [] = lengths
behind [] (i ∷ path) = []
behind (n ∷ lengths) (i ∷ path) = behind lengths path

pub record IsPartOf (lengths : List ℕ) (i n : ℕ) (t : Tree) : Type 0 where
  pub below : i < n
  pub shaped : Shaped lengths t

part_within : (lengths : List ℕ) (row : Row) (i : ℕ) (t : Tree) → EachPart (Shaped lengths) row → part_of row i ≡ Some t → IsPartOf lengths i (parts row) t
part_within lengths no_parts i t h e = absurd (let x : ⊥ = cc in x)
part_within lengths (and_part u row) zero t h e = let same : u ≡ t = cc in record { below = omega arith; shaped = subst (Shaped lengths) same h.0 }
part_within lengths (and_part u row) (suc i) t h e = let more = part_within lengths row i t h.1 e in record { below = omega (arith, more.below); shaped = more.shaped }

pub part_shaped : (n : ℕ) (lengths : List ℕ) (tree t : Tree) (i : ℕ) → Shaped (n ∷ lengths) tree → part_in (Some tree) i ≡ Some t → IsPartOf lengths i n t
part_shaped n lengths (Element v) t i h e = absurd h
part_shaped n lengths (Array row) t i h e = subst (λ k. IsPartOf lengths i k t) h.0 (part_within lengths row i t h.1 e)

pub record Reached (lengths path : List ℕ) (t : Tree) : Type 0 where
  pub within : IsPath lengths path
  pub shaped : Shaped (behind lengths path) t

no_part : (tree : Tree) (i : ℕ) → IsElement tree → part_in (Some tree) i ≡ None
no_part (Element v) i h = refl
no_part (Array row) i h = absurd h

mutual_part : (n : ℕ) (lengths : List ℕ) (tree : Tree) (i : ℕ) (path : List ℕ) (t : Tree) (o : Option Tree) → Shaped (n ∷ lengths) tree → part_in (Some tree) i ≡ o → at_path o path ≡ Some t
    → ((u : Tree) → Shaped lengths u → at_path (Some u) path ≡ Some t → Reached lengths path t) → Reached (n ∷ lengths) (i ∷ path) t
mutual_part n lengths tree i path t None h g e each = absurd (let x : None ≡ Some t = sym (at_none path) ∙ e in let y : ⊥ = cc in y)
mutual_part n lengths tree i path t (Some u) h g e each =
    let one = part_shaped n lengths tree u i h g in
    let more = each u one.shaped e in
    record { within = (one.below, more.within); shaped = more.shaped }

-- a part that is there has a path within the lengths
pub reached : (lengths : List ℕ) (tree : Tree) (path : List ℕ) (t : Tree) → Shaped lengths tree → at_path (Some tree) path ≡ Some t → Reached lengths path t
reached lengths tree [] t h e = let same : tree ≡ t = cc in record { within = tt; shaped = subst (Shaped lengths) same h }
reached [] tree (i ∷ path) t h e = absurd (let x : None ≡ Some t = sym (at_none path) ∙ (ap (λ o. at_path o path) (sym (no_part tree i h)) ∙ e) in let y : ⊥ = cc in y)
reached (n ∷ lengths) tree (i ∷ path) t h e =
    mutual_part n lengths tree i path t (part_in (Some tree) i) h refl e (λ u hu eu. reached lengths u path t hu eu)

-- ---- how many elements

elements_in_row : (lengths : List ℕ) (row : Row) (k : ℕ) → EachPart (λ t. Shaped lengths t) row → ((t : Tree) → Shaped lengths t → elements_of t ≡ k) → elements_of_row row ≡ parts row * k
elements_in_row lengths no_parts k h each = omega arith
elements_in_row lengths (and_part t row) k h each =
    let one = each t h.0 in
    let more = elements_in_row lengths row k h.1 each in
    let sum : suc (parts row) * k ≡ k + parts row * k = grind arith in
    omega (arith, one, more, sum)

pub count_elements : (lengths : List ℕ) (t : Tree) → Shaped lengths t → elements_of t ≡ elements_in lengths
count_elements [] (Element v) h = refl
count_elements [] (Array row) h = absurd h
count_elements (n ∷ lengths) (Element v) h = absurd h
count_elements (n ∷ lengths) (Array row) h =
    elements_in_row lengths row (elements_in lengths) h.1 (λ t ht. count_elements lengths t ht) ∙ ap (λ k. k * elements_in lengths) h.0

-- ---- the place of a part's part

pub before_more : (lengths path : List ℕ) (i : ℕ) → IsPath lengths (path ++ i ∷ []) → elements_before lengths (path ++ i ∷ []) ≡ elements_before lengths path + i * elements_in (behind lengths (path ++ i ∷ []))
before_more [] [] i h = absurd h
before_more [] (j ∷ path) i h = absurd h
before_more (n ∷ lengths) [] i h = nothing_more lengths i
  where
    nothing_more : (ls : List ℕ) (k : ℕ) → k * elements_in ls + elements_before ls [] ≡ 0 + k * elements_in ls
    nothing_more [] k = omega arith
    nothing_more (m ∷ ls) k = omega arith
before_more (n ∷ lengths) (j ∷ path) i h = let more = before_more lengths path i h.1 in omega (arith, more)

pub behind_element : (lengths path : List ℕ) (v : Option ℤ) → Shaped (behind lengths path) (Element v) → behind lengths path ≡ []
behind_element lengths path v h = by_list (behind lengths path) h
  where
    by_list : (ls : List ℕ) → Shaped ls (Element v) → ls ≡ []
    by_list [] g = refl
    by_list (n ∷ ls) g = absurd g

-- a path to an element is one of all
pub element_before_all : (lengths path : List ℕ) → IsPath lengths path → behind lengths path ≡ [] → elements_before lengths path < elements_in lengths
element_before_all [] path h e = omega arith
element_before_all (n ∷ lengths) [] h e = absurd (let x : ⊥ = cc in x)
element_before_all (n ∷ lengths) (i ∷ path) h e =
    let more = element_before_all lengths path h.1 e in
    let room : i * elements_in lengths + elements_in lengths ≤ n * elements_in lengths = grind (arith, rows i n (elements_in lengths) h.0) in
    omega (arith, more, room)
  where
    rows : (i n k : ℕ) → i < n → i * k + k ≤ n * k
    rows i n k lt = let e : n * k ≡ suc i * k + (n - suc i) * k = subst (λ m. m * k ≡ suc i * k + (n - suc i) * k) (let s : suc i + (n - suc i) ≡ n = omega (arith, lt) in s) (grind arith) in omega (arith, e, (let f : suc i * k ≡ k + i * k = grind arith in f))

-- ---- two elements

rows_apart : (i j n a b : ℕ) → i < j → a < n → i * n + a < j * n + b
rows_apart i j n a b lt small =
    let s : suc i + (j - suc i) ≡ j = omega (arith, lt) in
    let e : j * n ≡ suc i * n + (j - suc i) * n = subst (λ m. m * n ≡ suc i * n + (j - suc i) * n) s (grind arith) in
    let f : suc i * n ≡ n + i * n = grind arith in
    omega (arith, e, f, small)

-- paths part, and the elements are disjoint
pub record AreApart (lengths path path2 : List ℕ) : Type 0 where
  pub part : Parts path path2
  pub apart : (elements_before lengths path < elements_before lengths path2) ⊎ (elements_before lengths path2 < elements_before lengths path)

apart_below : (n : ℕ) (lengths : List ℕ) (i j : ℕ) (path path2 : List ℕ) → i < j → IsPath lengths path → behind lengths path ≡ [] → AreApart (n ∷ lengths) (i ∷ path) (j ∷ path2)
apart_below n lengths i j path path2 lt h e = record {
  part = inl (λ same. omega (arith, lt, same));
  apart = inl (rows_apart i j (elements_in lengths) (elements_before lengths path) (elements_before lengths path2) lt (element_before_all lengths path h e));
}

apart_above : (n : ℕ) (lengths : List ℕ) (i j : ℕ) (path path2 : List ℕ) → j < i → IsPath lengths path2 → behind lengths path2 ≡ [] → AreApart (n ∷ lengths) (i ∷ path) (j ∷ path2)
apart_above n lengths i j path path2 lt h e = record {
  part = inl (λ same. omega (arith, lt, same));
  apart = inr (rows_apart j i (elements_in lengths) (elements_before lengths path2) (elements_before lengths path) lt (element_before_all lengths path2 h e));
}

apart_within : (n : ℕ) (lengths : List ℕ) (i : ℕ) (path path2 : List ℕ) → AreApart lengths path path2 → AreApart (n ∷ lengths) (i ∷ path) (i ∷ path2)
apart_within n lengths i path path2 a = record {
  part = inr (refl, a.part);
  apart = ⊎_elim (λ lt. inl (omega (arith, lt))) (λ lt. inr (omega (arith, lt))) a.apart;
}

pub same_or_apart : (lengths path path2 : List ℕ) → IsPath lengths path → behind lengths path ≡ [] → IsPath lengths path2 → behind lengths path2 ≡ [] → (path ≡ path2) ⊎ AreApart lengths path path2
same_or_apart [] [] [] h e h2 e2 = inl refl
same_or_apart [] [] (j ∷ path2) h e h2 e2 = absurd h2
same_or_apart [] (i ∷ path) path2 h e h2 e2 = absurd h
same_or_apart (n ∷ lengths) [] path2 h e h2 e2 = absurd (let x : ⊥ = cc in x)
same_or_apart (n ∷ lengths) (i ∷ path) [] h e h2 e2 = absurd (let x : ⊥ = cc in x)
same_or_apart (n ∷ lengths) (i ∷ path) (j ∷ path2) h e h2 e2 =
    let more = same_or_apart lengths path path2 h.1 e h2.1 e2 in
    by_order more (cases_lt i j)
  where
    by_tail : i ≡ j → (path ≡ path2) ⊎ AreApart lengths path path2 → (i ∷ path ≡ j ∷ path2) ⊎ AreApart (n ∷ lengths) (i ∷ path) (j ∷ path2)
    by_tail same (inl tail) = inl (ap (λ k. k ∷ path) same ∙ ap (λ p. j ∷ p) tail)
    by_tail same (inr a) = inr (subst (λ k. AreApart (n ∷ lengths) (i ∷ path) (k ∷ path2)) same (apart_within n lengths i path path2 a))

    by_rest : (path ≡ path2) ⊎ AreApart lengths path path2 → j ≤ i → (j < i) ⊎ (i ≤ j) → (i ∷ path ≡ j ∷ path2) ⊎ AreApart (n ∷ lengths) (i ∷ path) (j ∷ path2)
    by_rest more le (inl lt) = inr (apart_above n lengths i j path path2 lt h2.1 e2)
    by_rest more le (inr ge) = by_tail (omega (arith, le, ge)) more

    by_order : (path ≡ path2) ⊎ AreApart lengths path path2 → (i < j) ⊎ (j ≤ i) → (i ∷ path ≡ j ∷ path2) ⊎ AreApart (n ∷ lengths) (i ∷ path) (j ∷ path2)
    by_order more (inl lt) = inr (apart_below n lengths i j path path2 lt h.1 e)
    by_order more (inr ge) = by_rest more ge (cases_lt j i)

-- ---- shapes stay

shaped_part : (lengths : List ℕ) (row : Row) (i : ℕ) (change : Tree → Tree) → ((t : Tree) → part_of row i ≡ Some t → Shaped lengths t → Shaped lengths (change t)) → EachPart (Shaped lengths) row → EachPart (Shaped lengths) (change_part row i change)
shaped_part lengths no_parts i change each h = tt
shaped_part lengths (and_part t row) zero change each h = (each t refl h.0, h.1)
shaped_part lengths (and_part t row) (suc i) change each h = (h.0, shaped_part lengths row i change each h.1)

parts_stay : (row : Row) (i : ℕ) (change : Tree → Tree) → parts (change_part row i change) ≡ parts row
parts_stay no_parts i change = refl
parts_stay (and_part t row) zero change = refl
parts_stay (and_part t row) (suc i) change = ap suc (parts_stay row i change)

shaped_in : (n : ℕ) (lengths : List ℕ) (t : Tree) (i : ℕ) (change : Tree → Tree) → ((u : Tree) → part_in (Some t) i ≡ Some u → Shaped lengths u → Shaped lengths (change u)) → Shaped (n ∷ lengths) t → Shaped (n ∷ lengths) (change_in t i change)
shaped_in n lengths (Element v) i change each h = absurd h
shaped_in n lengths (Array row) i change each h = (parts_stay row i change ∙ h.0, shaped_part lengths row i change each h.1)

-- an element in the place of an element
pub put_shaped : (lengths : List ℕ) (t : Tree) (path : List ℕ) (old new : Option ℤ) → Shaped lengths t → at_path (Some t) path ≡ Some (Element old) → Shaped lengths (put_at path (Element new) t)
put_shaped [] t [] old new h e = tt
put_shaped (n ∷ lengths) t [] old new h e = let same : t ≡ Element old = cc in absurd (subst (Shaped (n ∷ lengths)) same h)
put_shaped [] t (i ∷ path) old new h e = absurd (reached [] t (i ∷ path) (Element old) h e).within
put_shaped (n ∷ lengths) t (i ∷ path) old new h e =
    shaped_in n lengths t i (put_at path (Element new)) (λ u eu hu. put_shaped lengths u path old new hu (ap (λ o. at_path o path) (sym eu) ∙ e)) h

each_repeated : (P : Tree → Type 0) (n : ℕ) (t : Tree) → P t → EachPart P (repeated n t)
each_repeated P zero t h = tt
each_repeated P (suc n) t h = (h, each_repeated P n t h)

parts_repeated : (n : ℕ) (t : Tree) → parts (repeated n t) ≡ n
parts_repeated zero t = refl
parts_repeated (suc n) t = ap suc (parts_repeated n t)

pub filled_shaped : (v : Option ℤ) (lengths : List ℕ) → Shaped lengths (filled v lengths)
filled_shaped v [] = tt
filled_shaped v (n ∷ lengths) = (parts_repeated n (filled v lengths), each_repeated (Shaped lengths) n (filled v lengths) (filled_shaped v lengths))

part_repeated : (n : ℕ) (t : Tree) (i : ℕ) (u : Tree) → part_of (repeated n t) i ≡ Some u → t ≡ u
part_repeated zero t i u e = absurd (let x : ⊥ = cc in x)
part_repeated (suc n) t zero u e = cc
part_repeated (suc n) t (suc i) u e = part_repeated n t i u e

-- nothing in it has a value
pub filled_none : (lengths path : List ℕ) (v : ℤ) → at_path (Some (filled None lengths)) path ≡ Some (Element (Some v)) → ⊥
filled_none [] [] v e = cc
filled_none [] (i ∷ path) v e = let x : None ≡ Some (Element (Some v)) = sym (at_none path) ∙ e in let y : ⊥ = cc in y
filled_none (n ∷ lengths) [] v e = cc
filled_none (n ∷ lengths) (i ∷ path) v e = by_part (λ h. filled_none lengths path v h) (part_of (repeated n (filled None lengths)) i) refl
  where
    by_part : (at_path (Some (filled None lengths)) path ≡ Some (Element (Some v)) → ⊥) → (o : Option Tree) → part_of (repeated n (filled None lengths)) i ≡ o → ⊥
    by_part more None g = let x : None ≡ Some (Element (Some v)) = sym (at_none path) ∙ (ap (λ z. at_path z path) (sym g) ∙ e) in let y : ⊥ = cc in y
    by_part more (Some u) g = more (ap (λ z. at_path (Some z) path) (part_repeated n (filled None lengths) i u g) ∙ (ap (λ z. at_path z path) (sym g) ∙ e))
