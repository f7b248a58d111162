-- Numbers of elements and of parts, up to the greatest number that memory has.
use Rattle.std.proofs.Common.{◌≡◌, ℕ, zero, suc, ◌+◌, ◌*◌, ◌<◌, ◌≤◌, ◌⊎◌, inl, inr, List, [], ◌∷◌, length, drop, get_or, refl, sym, ap, ◌∙◌, arith}
use Rattle.std.specs.Prelude.{min}
use Rattle.std.proofs.lemmas.Bool.{cases_lt}
use Rattle.typing_spec.specs.Types.{elements_in}
use Rattle.interp_store.specs.Cells.{number}
use Rattle.interp_store.proofs.Shapes.{entered}

pub capped : (a r most : ℕ) → min (min a most * r) most ≡ min (a * r) most
capped a r most = by_size (cases_lt a most)
  where
    by_factor : (r : ℕ) → most ≤ a → min (min a most * r) most ≡ min (a * r) most
    by_factor zero h =
        let one : min a most * 0 ≡ 0 = grind arith in
        let other : a * 0 ≡ 0 = grind arith in
        ap (λ x. min x most) (one ∙ sym other)
    by_factor (suc r) h =
        let is : min a most ≡ most = omega (arith, h) in
        let one : most ≤ most * suc r = grind arith in
        let other : a ≤ a * suc r = grind arith in
        ap (λ x. min (x * suc r) most) is ∙ omega (arith, h, one, other)

    by_size : (a < most) ⊎ (most ≤ a) → min (min a most * r) most ≡ min (a * r) most
    by_size (inl h) = let is : min a most ≡ a = omega (arith, h) in ap (λ x. min (x * r) most) is
    by_size (inr h) = by_factor r h

-- a product of two
pub both_capped : (a b most : ℕ) → min (min a most * min b most) most ≡ min (a * b) most
both_capped a b most =
    let around : (x y : ℕ) → x * y ≡ y * x = λ x y. grind arith in
    capped a (min b most) most ∙ ap (λ x. min x most) (around a (min b most)) ∙ capped b a most ∙ ap (λ x. min x most) (around b a)

-- ---- how many elements

counted_from : (ls : List ℕ) (i : ℕ) → i < length ls → elements_in (drop i ls) ≡ get_or ls i 0 * elements_in (drop (suc i) ls)
counted_from [] i h = absurd (omega (arith, h))
counted_from (n ∷ ls) zero h = refl
counted_from (n ∷ ls) (suc i) h = counted_from ls i (omega (arith, h))

-- one length more
pub one_counted : (ls : List ℕ) (i product next most whole : ℕ) → i < length ls → next ≡ min (product * get_or ls i 0) most →
    min (product * elements_in (drop i ls)) most ≡ whole → min (next * elements_in (drop (i + 1) ls)) most ≡ whole
one_counted ls i product next most whole h e all =
    let rest = elements_in (drop (suc i) ls) in
    let place : i + 1 ≡ suc i = omega arith in
    let around : (product * get_or ls i 0) * rest ≡ product * (get_or ls i 0 * rest) = grind arith in
    ap (λ k. min (next * elements_in (drop k ls)) most) place ∙ ap (λ x. min (x * rest) most) e ∙ capped (product * get_or ls i 0) rest most
    ∙ ap (λ x. min x most) (around ∙ ap (λ x. product * x) (sym (counted_from ls i h))) ∙ all

-- ---- which part

number_capped : (path ls : List ℕ) (k most : ℕ) → min (number path ls (min k most)) most ≡ min (number path ls k) most
number_capped [] ls k most = omega arith
number_capped (i ∷ path) [] k most = omega arith
number_capped (i ∷ path) (n ∷ ls) k most =
    let same : min (min k most * n + i) most ≡ min (k * n + i) most = omega (arith, capped k n most) in
    sym (number_capped path ls (min k most * n + i) most) ∙ ap (λ x. min (number path ls x) most) same ∙ number_capped path ls (k * n + i) most

-- one subscript more
pub counts_on : (path : List ℕ) (at : ℕ) (ls inner : List ℕ) (n k next most whole : ℕ) → ls ≡ n ∷ inner → at < length path → next ≡ min (min (k * n) most + get_or path at 0) most →
    min (number (drop at path) ls k) most ≡ whole → min (number (drop (at + 1) path) inner next) most ≡ whole
counts_on path at ls inner n k next most whole e h is all =
    let same : next ≡ min (k * n + get_or path at 0) most = omega (arith, is) in
    ap (λ x. min (number (drop (at + 1) path) inner x) most) same ∙ number_capped (drop (at + 1) path) inner (k * n + get_or path at 0) most
    ∙ ap (λ ls. min (number (get_or path at 0 ∷ drop (at + 1) path) ls k) most) (sym e) ∙ ap (λ p. min (number p ls k) most) (sym (entered path at h)) ∙ all

pub counts_no_further : (path : List ℕ) (at : ℕ) (ls : List ℕ) (k most whole : ℕ) → k ≤ most → length ls ≡ 0 → at < length path → min (number (drop at path) ls k) most ≡ whole → k ≡ whole
counts_no_further path at [] k most whole fits e h all =
    let is : k ≡ min k most = omega (arith, fits) in
    is ∙ ap (λ p. min (number p [] k) most) (sym (entered path at h)) ∙ all
counts_no_further path at (n ∷ ls) k most whole fits e h all = absurd (omega (arith, e))
