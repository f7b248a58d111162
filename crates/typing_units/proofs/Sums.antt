-- Sums up to the greatest number of 32 bits, as far as a list is read.
use Rattle.std.proofs.Common.{◌≡◌, ℕ, ◌+◌, ◌-◌, ◌^◌, ◌<◌, List, [], ◌∷◌, take, get_or, length, min, refl, ap, sym, ◌∙◌, arith}
use Rattle.std.proofs.lemmas.List.Recursion.{is_sum_by}
use Rattle.std.proofs.lemmas.List.Sums.{sum_by_more}
use Rattle.std.specs.List.{sum_by}
use Rattle.tree.specs.Capped.{capped32}

sum_so_far : {X : Type 0} (F : List X → ℕ) (f : X → ℕ) (none : F [] ≡ 0) (step : (x : X) (xs : List X) → F (x ∷ xs) ≡ f x + F xs)
    (xs : List X) (i : ℕ) (d : X) → i < length xs → F (take (i + 1) xs) ≡ F (take i xs) + f (get_or xs i d)
sum_so_far F f none step xs i d l =
    let same : (ys : List _) → F ys ≡ sum_by f ys = λ ys. is_sum_by F f none step ys in
    same (take (i + 1) xs) ∙ sum_by_more f xs i d l ∙ ap (λ n. n + f (get_or xs i d)) (sym (same (take i xs)))

-- the total so far and the next element's number are the next total
pub next_sum : {X : Type 0} (F : List X → ℕ) (f : X → ℕ) (none : F [] ≡ 0) (step : (x : X) (xs : List X) → F (x ∷ xs) ≡ f x + F xs)
    (xs : List X) (i : ℕ) (x : X) → i < length xs → (total next more : ℕ) → total ≡ capped32 (F (take i xs)) → x ≡ get_or xs i x → more ≡ capped32 (f x)
    → ((x y : ℕ) → total ≡ capped32 x → more ≡ capped32 y → next ≡ capped32 (x + y)) → next ≡ capped32 (F (take (i + 1) xs))
next_sum F f none step xs i x l total next more t e m s = s (F (take i xs)) (f x) t m ∙ ap (λ n. capped32 (F (take i xs) + f n)) e
    ∙ ap capped32 (sym (sum_so_far F f none step xs i x l))

-- of nothing, of one byte, and of two numbers
pub capped32_none : 0 ≡ capped32 0
unfolding capped32
capped32_none = refl

pub capped32_one : 1 ≡ capped32 1
unfolding capped32
capped32_one = refl

pub capped32_sum : (a b r x y : ℕ) → r ≡ min (a + b) (2 ^ 32 - 1) → a ≡ capped32 x → b ≡ capped32 y → r ≡ capped32 (x + y)
unfolding capped32
capped32_sum a b r x y e f g = omega arith
