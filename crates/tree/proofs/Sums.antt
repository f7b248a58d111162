-- Numbers up to the greatest of a word, and their meaning for a list so far.
use Rattle.std.proofs.Common.{◌≡◌, ℕ, ◌+◌, ◌-◌, ◌^◌, ◌<◌, ◌≤◌, List, [], ◌∷◌, take, get_or, length, max, min, refl, ap, sym, ◌∙◌, arith}
use Rattle.std.proofs.lemmas.List.Recursion.{is_sum_by, max_push}
use Rattle.std.proofs.lemmas.List.{take_more}
use Rattle.std.proofs.lemmas.List.Sums.{sum_by_more}
use Rattle.std.specs.List.{sum_by}
use Rattle.tree.specs.Capped.{capped, capped32}

pub capped_none : 0 ≡ capped 0
unfolding capped
capped_none = refl

pub capped_one : 1 ≡ capped 1
unfolding capped
capped_one = refl

pub capped32_none : 0 ≡ capped32 0
unfolding capped32
capped32_none = refl

pub capped32_one : 1 ≡ capped32 1
unfolding capped32
capped32_one = refl

pub capped_sum : (a b r x y : ℕ) → r ≡ min (a + b) (2 ^ 64 - 1) → a ≡ capped x → b ≡ capped y → r ≡ capped (x + y)
unfolding capped
capped_sum a b r x y e f g = omega arith

pub capped32_sum : (a b r x y : ℕ) → r ≡ min (a + b) (2 ^ 32 - 1) → a ≡ capped32 x → b ≡ capped32 y → r ≡ capped32 (x + y)
unfolding capped32
capped32_sum a b r x y e f g = omega arith

pub capped32_right : (a b x y : ℕ) → a < b → a ≡ capped32 x → b ≡ capped32 y → b ≡ capped32 (max x y)
unfolding capped32
capped32_right a b x y l f g = omega arith

pub capped32_left : (a b x y : ℕ) → b ≤ a → a ≡ capped32 x → b ≡ capped32 y → a ≡ capped32 (max x y)
unfolding capped32
capped32_left a b x y l f g = omega arith

sum_so_far : {X : Type 0} (F : List X → ℕ) (f : X → ℕ) (none : F [] ≡ 0) (step : (x : X) (xs : List X) → F (x ∷ xs) ≡ f x + F xs)
    (xs : List X) (i : ℕ) (d : X) → i < length xs → F (take (i + 1) xs) ≡ F (take i xs) + f (get_or xs i d)
sum_so_far F f none step xs i d l =
    let same : (ys : List _) → F ys ≡ sum_by f ys = λ ys. is_sum_by F f none step ys in
    same (take (i + 1) xs) ∙ sum_by_more f xs i d l ∙ ap (λ n. n + f (get_or xs i d)) (sym (same (take i xs)))

-- the total so far and the next element's count are the next total
pub next_sum : {X : Type 0} (F : List X → ℕ) (f : X → ℕ) (none : F [] ≡ 0) (step : (x : X) (xs : List X) → F (x ∷ xs) ≡ f x + F xs)
    (xs : List X) (i : ℕ) (x : X) → i < length xs → (total next more : ℕ) → total ≡ capped (F (take i xs)) → x ≡ get_or xs i x → more ≡ capped (f x)
    → ((x y : ℕ) → total ≡ capped x → more ≡ capped y → next ≡ capped (x + y)) → next ≡ capped (F (take (i + 1) xs))
next_sum F f none step xs i x l total next more t e m s = s (F (take i xs)) (f x) t m ∙ ap (λ n. capped (F (take i xs) + f n)) e
    ∙ ap capped (sym (sum_so_far F f none step xs i x l))

max_so_far : {X : Type 0} (F : List X → ℕ) (f : X → ℕ) (none : F [] ≡ 0) (step : (x : X) (xs : List X) → F (x ∷ xs) ≡ max (f x) (F xs))
    (xs : List X) (i : ℕ) (d : X) → i < length xs → F (take (i + 1) xs) ≡ max (F (take i xs)) (f (get_or xs i d))
max_so_far F f none step xs i d l = ap F (take_more xs i d l) ∙ max_push F f none step (take i xs) (get_or xs i d)

pub next_max : {X : Type 0} (F : List X → ℕ) (f : X → ℕ) (none : F [] ≡ 0) (step : (x : X) (xs : List X) → F (x ∷ xs) ≡ max (f x) (F xs))
    (xs : List X) (i : ℕ) (x : X) → i < length xs → (deepest next more : ℕ) → deepest ≡ capped32 (F (take i xs)) → x ≡ get_or xs i x → more ≡ capped32 (f x)
    → ((x y : ℕ) → deepest ≡ capped32 x → more ≡ capped32 y → next ≡ capped32 (max x y)) → next ≡ capped32 (F (take (i + 1) xs))
next_max F f none step xs i x l deepest next more t e m s = s (F (take i xs)) (f x) t m ∙ ap (λ n. capped32 (max (F (take i xs)) (f n))) e
    ∙ ap capped32 (sym (max_so_far F f none step xs i x l))
