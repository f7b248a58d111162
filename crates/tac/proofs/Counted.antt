-- Numbers of elements as far as a word counts.
use Rattle.std.proofs.Common.{◌≡◌, ℕ, zero, suc, ◌+◌, ◌*◌, ◌-◌, ◌<◌, ◌≤◌, true, false, min, nat_lt, List, ◌∷◌, length, map, drop, get_or, refl, ap, sym, ◌∙◌, arith}
use Rattle.std.proofs.lemmas.Nat.{mul-le}
use Rattle.std.proofs.lemmas.List.{drop_more}
use Rattle.typing_spec.specs.Program as typed
use Rattle.typing_spec.specs.Program.{Initialiser, Initialisers}
use Rattle.lower_ops.specs.layer.Parts.{plus}
use Rattle.tac.specs.inside.FirstSizes.{clears_size, fills_size, fill_all_size}
use Rattle.tac.proofs.Filled.{plus_assoc}

-- ---- products up to a limit M

small : (M a b r x : ℕ) → r ≡ min (a * b) M → b ≡ min x M → x ≤ M → r ≡ min (a * x) M
small M a b r x e f h = let g : b ≡ x = omega (arith, f, h) in e ∙ ap (λ k. min (a * k) M) g

large : (M a b r x : ℕ) → r ≡ min (a * b) M → b ≡ min x M → M ≤ x → r ≡ min (a * x) M
large M zero b r x e f h = omega (arith, e)
large M (suc a) b r x e f h =
    let g : b ≡ M = omega (arith, f, h) in
    let p = mul-le 1 M (suc a) M (omega arith) (omega arith) in
    let q = mul-le (suc a) M (suc a) x (omega arith) h in
    let w : r ≡ min (suc a * M) M = e ∙ ap (λ k. min (suc a * k) M) g in omega (arith, w, p, q)

pub product : (M a b r x : ℕ) → r ≡ min (a * b) M → b ≡ min x M → r ≡ min (a * x) M
product M a b r x e f =
    elim (nat_lt x M) as (λ v. nat_lt x M ≡ v → r ≡ min (a * x) M)
    [ true ↦ λ v. small M a b r x e f (grind arith) | false ↦ λ v. large M a b r x e f (grind arith) ] refl

cut : (M : ℕ) → 2 ≤ M → (n : ℕ) → clears_size (min n M) ≡ clears_size n
cut M h zero = let e : min 0 M ≡ 0 = omega arith in ap clears_size e
cut M h (suc zero) = let e : min 1 M ≡ 1 = omega (arith, h) in ap clears_size e
cut M h (suc (suc n)) = let e : min (suc (suc n)) M ≡ suc (suc (min n (M - 2))) = omega (arith, h) in ap clears_size e

pub clears_counted : (M : ℕ) → 2 ≤ M → (a b r x : ℕ) → r ≡ min (a * b) M → b ≡ min x M → clears_size r ≡ clears_size (a * x)
clears_counted M h a b r x e f = ap clears_size (product M a b r x e f) ∙ cut M h (a * x)

pub clears_none : (n : ℕ) → n ≡ 0 → 0 ≡ clears_size n
clears_none n e = sym (ap clears_size e)

pub clears_one : (n : ℕ) → n ≡ 1 → 1 ≡ clears_size n
clears_one n e = sym (ap clears_size e)

pub clears_more : (n : ℕ) → 2 ≤ n → clears_size 2 ≡ clears_size n
clears_more zero h = absurd (omega (arith, h))
clears_more (suc zero) h = absurd (omega (arith, h))
clears_more (suc (suc n)) h = refl

-- ---- lists

module _ (texts : List (List ℕ)) (lengths : List ℕ) where
  pub next_counted : {X : Type 0} (g : X → Initialiser) (of : List Initialiser → Initialisers)
      → ((i : Initialiser) (is : List Initialiser) → of (i ∷ is) ≡ typed.and_initialiser i (of is))
      → (xs : List X) (i : ℕ) (x : X) → i < length xs → x ≡ get_or xs i x → (all old more next k k2 : ℕ)
      → plus old (fill_all_size texts (of (map g (drop i xs))) k lengths) ≡ all → more ≡ fills_size texts (g x) lengths → next ≡ plus old more → k ≡ suc k2
      → plus next (fill_all_size texts (of (map g (drop (i + 1) xs))) k2 lengths) ≡ all
  next_counted g of step xs i x lt e all old more next k k2 h m n ek =
      let here : of (map g (drop i xs)) ≡ typed.and_initialiser (g x) (of (map g (drop (i + 1) xs))) =
      ap (λ zs. of (map g zs)) (drop_more xs i x lt) ∙ step (g (get_or xs i x)) (map g (drop (i + 1) xs)) ∙ ap (λ v. typed.and_initialiser (g v) (of (map g (drop (i + 1) xs)))) (sym e) in
      let tail = fill_all_size texts (of (map g (drop (i + 1) xs))) k2 lengths in
      ap (λ s. plus s tail) (n ∙ ap (λ s. plus old s) m)
      ∙ plus_assoc old (fills_size texts (g x) lengths) tail
      ∙ ap (λ j. plus old (fill_all_size texts (typed.and_initialiser (g x) (of (map g (drop (i + 1) xs)))) j lengths)) (sym ek)
      ∙ ap (λ r. plus old (fill_all_size texts r k lengths)) (sym here) ∙ h
