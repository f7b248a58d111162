-- The objects before the run.
use Rattle.std.proofs.Common.{◌≡◌, ℕ, ℤ, zero, suc, ◌+◌, ◌*◌, ◌<◌, ◌≤◌, ◌⊎◌, inl, inr, get_or, List, [], ◌∷◌, ◌++◌, length, map, drop, refl, sym, ap, ◌∙◌, arith, pos, drop-cons, Some}
use Rattle.std.specs.Prelude.{min, slice_get}
use Rattle.std.proofs.lemmas.Bool.{cases_lt}
use Rattle.csem.specs.Store as machine
use Rattle.csem.specs.Store.{first_or_zero}
use Rattle.typing_spec.specs.Types.{elements_in}
use Rattle.interp_store.specs.Cells.{rows, shaped}

-- ---- one more cell

pub cell_before : (cs : List ℤ) (c : ℤ) (k : ℕ) → k < length cs → slice_get (cs ++ c ∷ []) k ≡ slice_get cs k
cell_before [] c k h = absurd (omega arith)
cell_before (d ∷ cs) c zero h = refl
cell_before (d ∷ cs) c (suc k) h = cell_before cs c k (omega arith)

pub cell_behind : (cs : List ℤ) (c : ℤ) → slice_get (cs ++ c ∷ []) (length cs) ≡ Some c
cell_behind [] c = refl
cell_behind (d ∷ cs) c = cell_behind cs c

-- that many values, and one more
pub one_laid : (cs vs : List ℤ) (c : ℤ) (k : ℕ) → length cs ≡ k → c ≡ first_or_zero (drop k vs) →
    ((j : ℕ) → j < k → slice_get cs j ≡ Some (first_or_zero (drop j vs))) → (j : ℕ) → j < k + 1 → slice_get (cs ++ c ∷ []) j ≡ Some (first_or_zero (drop j vs))
one_laid cs vs c k size e each j h = by_place (cases_lt j k)
  where
    by_place : (j < k) ⊎ (k ≤ j) → slice_get (cs ++ c ∷ []) j ≡ Some (first_or_zero (drop j vs))
    by_place (inl l) = cell_before cs c j (omega (arith, size, l)) ∙ each j l
    by_place (inr l) =
        let last : j ≡ k = omega (arith, h, l) in
        ap (slice_get (cs ++ c ∷ [])) (last ∙ sym size) ∙ cell_behind cs c ∙ ap Some (e ∙ ap (λ k. first_or_zero (drop k vs)) (sym last))

pub size_behind : (cs : List ℤ) (c : ℤ) → length (cs ++ c ∷ []) ≡ length cs + 1
size_behind [] c = refl
size_behind (d ∷ cs) c = let more : length (cs ++ c ∷ []) ≡ length cs + 1 = size_behind cs c in omega arith

-- ---- values in order

nothing : (j : ℕ) (vs : List ℤ) → vs ≡ [] → vs ≡ drop j vs
nothing zero vs e = refl
nothing (suc j) [] e = refl
nothing (suc j) (v ∷ vs) e = absurd (cc e)

drop_further : (n j : ℕ) (vs : List ℤ) → drop (n + j) vs ≡ drop j (drop n vs)
drop_further zero j vs = let none : 0 + j ≡ j = omega arith in ap (λ k. drop k vs) none
drop_further (suc n) j [] = let more : suc n + j ≡ suc (n + j) = omega arith in ap (λ k. drop k []) more ∙ nothing j [] refl
drop_further (suc n) j (v ∷ vs) = let more : suc n + j ≡ suc (n + j) = omega arith in ap (λ k. drop k (v ∷ vs)) more ∙ drop_further n j vs

module _ (cs : List ℤ) where
  rows_laid : (n size : ℕ) (part : ℕ → machine.Tree) (object : List ℤ → machine.Tree) (k : ℕ) (vs : List ℤ) →
      ((k : ℕ) (vs : List ℤ) → ((j : ℕ) → j < size → slice_get cs (k + j) ≡ Some (first_or_zero (drop j vs))) → part k ≡ object vs) →
      ((j : ℕ) → j < n * size → slice_get cs (k + j) ≡ Some (first_or_zero (drop j vs))) → rows n size part k ≡ machine.row_of n size object vs
  rows_laid zero size part object k vs inner each = refl
  rows_laid (suc n) size part object k vs inner each =
      let whole : suc n * size ≡ size + n * size = grind arith in
      let on : (j : ℕ) → k + size + j ≡ k + (size + j) = λ j. omega arith in
      ap (λ t. machine.and_part t (rows n size part (k + size))) (inner k vs (λ j h. each j (omega (arith, whole, h))))
      ∙ ap (machine.and_part (object vs)) (rows_laid n size part object (k + size) (drop size vs) inner
      (λ j h. ap (slice_get cs) (on j) ∙ each (size + j) (omega (arith, whole, h)) ∙ ap (λ vs. Some (first_or_zero vs)) (drop_further size j vs)))

  pub object_laid : (ls : List ℕ) (k : ℕ) (vs : List ℤ) → ((j : ℕ) → j < elements_in ls → slice_get cs (k + j) ≡ Some (first_or_zero (drop j vs))) → shaped ls (slice_get cs) k ≡ machine.laid_out ls vs
  object_laid [] k vs each =
      let here : k + 0 ≡ k = omega arith in
      ap machine.Element (sym (ap (slice_get cs) here) ∙ each 0 (omega arith))
  object_laid (n ∷ ls) k vs each = ap machine.Array (rows_laid n (elements_in ls) (shaped ls (slice_get cs)) (machine.laid_out ls) k vs (λ k vs each. object_laid ls k vs each) each)

pub laid_whole : (ls : List ℕ) (cs vs : List ℤ) (n : ℕ) → n ≡ elements_in ls → ((j : ℕ) → j < n → slice_get cs j ≡ Some (first_or_zero (drop j vs))) → shaped ls (slice_get cs) 0 ≡ machine.laid_out ls vs
laid_whole ls cs vs n size each =
    let on : (j : ℕ) → 0 + j ≡ j = λ j. omega arith in
    object_laid cs ls 0 vs (λ j h. ap (slice_get cs) (on j) ∙ each j (omega (arith, size, h)))

-- ---- how many elements, up to a number

counted_from : (ls : List ℕ) (i : ℕ) → i < length ls → elements_in (drop i ls) ≡ get_or ls i 0 * elements_in (drop (suc i) ls)
counted_from [] i h = absurd (omega (arith, h))
counted_from (n ∷ ls) zero h = refl
counted_from (n ∷ ls) (suc i) h = counted_from ls i (omega (arith, h))

no_length : (ls : List ℕ) (i : ℕ) → length ls ≤ i → elements_in (drop i ls) ≡ 1
no_length [] zero h = refl
no_length [] (suc i) h = refl
no_length (n ∷ ls) zero h = absurd (omega (arith, h))
no_length (n ∷ ls) (suc i) h = no_length ls i (omega (arith, h))

capped : (a r most : ℕ) → min (min a most * r) most ≡ min (a * r) most
capped a r most = by_size (cases_lt a most)
  where
    by_factor : (r : ℕ) → most ≤ a → min (min a most * r) most ≡ min (a * r) most
    by_factor zero h =
        let one : min a most * 0 ≡ 0 = grind arith in
        let other : a * 0 ≡ 0 = grind arith in
        ap (λ x. min x most) (one ∙ sym other)
    by_factor (suc r) h =
        let is : min a most ≡ most = omega (arith, h) in
        let one : most ≤ most * suc r = grind arith in
        let other : a ≤ a * suc r = grind arith in
        ap (λ x. min (x * suc r) most) is ∙ omega (arith, h, one, other)

    by_size : (a < most) ⊎ (most ≤ a) → min (min a most * r) most ≡ min (a * r) most
    by_size (inl h) = let is : min a most ≡ a = omega (arith, h) in ap (λ x. min (x * r) most) is
    by_size (inr h) = by_factor r h

pub one_counted : (ls : List ℕ) (i product next most whole : ℕ) → i < length ls → next ≡ min (product * get_or ls i 0) most →
    min (product * elements_in (drop i ls)) most ≡ whole → min (next * elements_in (drop (i + 1) ls)) most ≡ whole
one_counted ls i product next most whole h e all =
    let rest = elements_in (drop (suc i) ls) in
    let number : i + 1 ≡ suc i = omega arith in
    let around : (product * get_or ls i 0) * rest ≡ product * (get_or ls i 0 * rest) = grind arith in
    ap (λ k. min (next * elements_in (drop k ls)) most) number ∙ ap (λ x. min (x * rest) most) e ∙ capped (product * get_or ls i 0) rest most
    ∙ ap (λ x. min x most) (around ∙ ap (λ x. product * x) (sym (counted_from ls i h))) ∙ all

pub first_counted : (ls : List ℕ) (most : ℕ) → min (1 * elements_in ls) most ≡ min (elements_in ls) most
first_counted ls most = let one : 1 * elements_in ls ≡ elements_in ls = grind arith in ap (λ x. min x most) one

pub all_counted : (ls : List ℕ) (i product most whole : ℕ) → product ≤ most → length ls ≤ i → min (product * elements_in (drop i ls)) most ≡ whole → product ≡ whole
all_counted ls i product most whole fits h all =
    let one : product * 1 ≡ product = grind arith in
    let is : product ≡ min product most = omega (arith, fits) in
    is ∙ ap (λ x. min x most) (sym one ∙ sym (ap (λ x. product * x) (no_length ls i h))) ∙ all

pub element_laid : (v : ℤ) (vs : List ℤ) (lengths : List ℕ) → length lengths ≡ 0 → v ≡ first_or_zero vs → machine.Element (Some v) ≡ machine.laid_out lengths vs
element_laid v vs [] e f = ap (λ v. machine.Element (Some v)) f
element_laid v vs (n ∷ lengths) e f = absurd (omega (arith, e))

pub value_got : (vs : List ℤ) (k : ℕ) (v : ℤ) → k < length vs → v ≡ get_or vs k v → v ≡ first_or_zero (drop k vs)
value_got [] k v h e = absurd (omega arith)
value_got (w ∷ vs) zero v h e = e
value_got (w ∷ vs) (suc k) v h e = value_got vs k v (omega arith) e

pub no_value_got : (vs : List ℤ) (k : ℕ) → length vs ≤ k → pos 0 ≡ first_or_zero (drop k vs)
no_value_got [] zero h = refl
no_value_got [] (suc k) h = refl
no_value_got (v ∷ vs) zero h = absurd (omega arith)
no_value_got (v ∷ vs) (suc k) h = no_value_got vs k (omega arith)

-- ---- a string literal

pub next_character : (cs : List ℤ) (c : ℤ) (text : List ℕ) (i : ℕ) (whole : List ℤ) → i < length text → c ≡ pos (get_or text i 0) →
    cs ++ map pos (drop i text) ≡ whole → (cs ++ c ∷ []) ++ map pos (drop (i + 1) text) ≡ whole
next_character cs c text i whole h is all =
    behind cs c (map pos (drop (i + 1) text)) ∙ ap (λ c. cs ++ c ∷ map pos (drop (i + 1) text)) is
    ∙ ap (λ n. cs ++ pos (get_or text i 0) ∷ map pos (drop n text)) number ∙ ap (λ l. cs ++ map pos l) (sym (drop-cons text i 0 h)) ∙ all
  where
    number : i + 1 ≡ suc i
    number = omega arith

    behind : (cs : List ℤ) (c : ℤ) (ds : List ℤ) → (cs ++ c ∷ []) ++ ds ≡ cs ++ c ∷ ds
    behind [] c ds = refl
    behind (d ∷ cs) c ds = ap (λ l. d ∷ l) (behind cs c ds)

pub last_character : (cs : List ℤ) (text : List ℕ) (i : ℕ) (whole : List ℤ) → length text ≤ i → cs ++ map pos (drop i text) ≡ whole → cs ≡ whole
last_character cs text i whole h all = sym (nothing_behind cs) ∙ ap (λ l. cs ++ map pos l) (sym (nothing_left text i h)) ∙ all
  where
    nothing_behind : (cs : List ℤ) → cs ++ [] ≡ cs
    nothing_behind [] = refl
    nothing_behind (c ∷ cs) = ap (λ l. c ∷ l) (nothing_behind cs)

    nothing_left : (text : List ℕ) (i : ℕ) → length text ≤ i → drop i text ≡ []
    nothing_left [] zero h = refl
    nothing_left [] (suc i) h = refl
    nothing_left (c ∷ text) zero h = absurd (omega (arith, h))
    nothing_left (c ∷ text) (suc i) h = nothing_left text i (omega (arith, h))

cell_of_text : (text : List ℕ) (j : ℕ) → j < length text → slice_get (map pos text) j ≡ Some (pos (get_or text j 0))
cell_of_text [] j h = absurd (omega arith)
cell_of_text (c ∷ text) zero h = refl
cell_of_text (c ∷ text) (suc j) h = cell_of_text text j (omega arith)

rows_of_text : (text : List ℕ) (cs : List ℤ) (k : ℕ) → ((j : ℕ) → j < length text → slice_get cs (k + j) ≡ Some (pos (get_or text j 0))) →
    rows (length text) 1 (shaped [] (slice_get cs)) k ≡ machine.characters_of text
rows_of_text [] cs k each = refl
rows_of_text (c ∷ text) cs k each =
    let here : k + 0 ≡ k = omega arith in
    let on : (j : ℕ) → k + 1 + j ≡ k + suc j = λ j. omega arith in
    ap (λ v. machine.and_part (machine.Element v) (rows (length text) 1 (shaped [] (slice_get cs)) (k + 1))) (sym (ap (slice_get cs) here) ∙ each 0 (omega arith))
    ∙ ap (machine.and_part (machine.Element (Some (pos c)))) (rows_of_text text cs (k + 1) (λ j h. ap (slice_get cs) (on j) ∙ each (suc j) (omega arith)))

as_long : (text : List ℕ) → length (map pos text) ≡ length text
as_long [] = refl
as_long (c ∷ text) = ap suc (as_long text)

pub literal_laid : (text : List ℕ) (cs : List ℤ) → cs ≡ map pos text → shaped (length cs ∷ []) (slice_get cs) 0 ≡ machine.literal_object text
literal_laid text cs e =
    let on : (j : ℕ) → 0 + j ≡ j = λ j. omega arith in
    ap (λ cs. shaped (length cs ∷ []) (slice_get cs) 0) e ∙ ap (λ n. shaped (n ∷ []) (slice_get (map pos text)) 0) (as_long text)
    ∙ ap machine.Array (rows_of_text text (map pos text) 0 (λ j h. ap (slice_get (map pos text)) (on j) ∙ cell_of_text text j h))
