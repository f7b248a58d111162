-- The addresses of the items of a list in two parts.
use Rattle.std.proofs.Common.{◌≡◌, ℕ, zero, suc, ◌+◌, ◌<◌, ◌≤◌, List, [], ◌∷◌, ◌++◌, length, Bool, refl, sym, ap, ◌∙◌, arith}
use Rattle.asm.specs.declared.item.Item.{Item}
use Rattle.asm.specs.Layout.{item_at, size, place, PlacesInParts}

pub item_in_front : (xs ys : List Item) (k : ℕ) → k < length xs → item_at (xs ++ ys) k ≡ item_at xs k
item_in_front [] ys k lt = absurd (omega (arith, lt))
item_in_front (x ∷ xs) ys zero lt = refl
item_in_front (x ∷ xs) ys (suc k) lt = item_in_front xs ys k (omega (arith, lt))

pub item_behind : (xs ys : List Item) (k : ℕ) → item_at (xs ++ ys) (length xs + k) ≡ item_at ys k
item_behind [] ys k = ap (item_at ys) (let e : 0 + k ≡ k = omega arith in e)
item_behind (x ∷ xs) ys k =
    let e : length (x ∷ xs) + k ≡ suc (length xs + k) = omega arith in
    ap (item_at (x ∷ (xs ++ ys))) e ∙ item_behind xs ys k

front : (L : ℕ → Bool) (base : ℕ) (xs ys : List Item) (k : ℕ) → k ≤ length xs → place L base (xs ++ ys) k ≡ place L base xs k
front L base xs ys zero le = refl
front L base xs ys (suc k) le =
    let item = ap (size (L k)) (item_in_front xs ys k (omega (arith, le))) in
    omega (arith, item, front L base xs ys k (omega (arith, le)))

behind : (L : ℕ → Bool) (base : ℕ) (xs ys : List Item) (k : ℕ) → place L base (xs ++ ys) (length xs + k) ≡ place (λ j. L (length xs + j)) (place L base xs (length xs)) ys k
behind L base xs ys zero =
    let e : length xs + 0 ≡ length xs = omega arith in
    ap (place L base (xs ++ ys)) e ∙ front L base xs ys (length xs) (omega arith)
behind L base xs ys (suc k) =
    let e : length xs + suc k ≡ suc (length xs + k) = omega arith in
    let item = ap (size (L (length xs + k))) (item_behind xs ys k) in
    ap (place L base (xs ++ ys)) e ∙ (let sum : place L base (xs ++ ys) (suc (length xs + k)) ≡ place (λ j. L (length xs + j)) (place L base xs (length xs)) ys (suc k) = omega (arith, item, behind L base xs ys k) in sum)

pub places_in_parts : PlacesInParts
places_in_parts L base xs ys = (front L base xs ys, behind L base xs ys)
