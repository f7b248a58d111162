-- Where items end with all branches long.
use Rattle.std.proofs.Common.{length, ◌≡◌, ℕ, zero, suc, ◌+◌, ◌*◌, ◌<◌, ◌≤◌, List, [], ◌∷◌, true, false, refl, ap, arith}
use Rattle.std.specs.Prelude.{◌↔◌, IsTrue}
use Rattle.asm.specs.declared.item.Item.{Item}
use Rattle.asm.specs.Layout.{item_at, size, place, all_long, longest, IsLow, EndsAfterLongest}
use Rattle.std.proofs.lemmas.List.Sums.{sum_by-append}
use Rattle.asm.proofs.Grow.{apart_most, place_rises}

-- without the first item the others keep their addresses
without_first : (base : ℕ) (x : Item) (xs : List Item) (k : ℕ) → place all_long base (x ∷ xs) (suc k) ≡ place all_long (base + size true x) xs k
without_first base x xs zero = refl
without_first base x xs (suc k) = ap (λ n. n + size true (item_at xs k)) (without_first base x xs k)

pub ends : EndsAfterLongest
ends base [] = omega arith
ends base (x ∷ xs) =
    let sum : longest (x ∷ xs) ≡ longest (x ∷ []) + longest xs = sum_by-append (size true) (x ∷ []) xs in
    let one : longest (x ∷ []) ≡ 0 + size true x = refl in
    omega (arith, without_first base x xs (length xs), ends (base + size true x) xs)

-- items that end low whatever they are
pub few_low : (base : ℕ) (xs : List Item) → base + 8 * length xs < 0x70000000 → IsTrue true ↔ IsLow base xs
few_low base xs few =
    let low : IsLow base xs = omega (arith, apart_most all_long base xs 0 (length xs) (omega arith), few) in
    (λ e. low, λ l. refl)

not_true : (P : Type 0) → (P → ⊥) → IsTrue false ↔ P
not_true P differs = (λ e. cc, λ p. absurd (differs p))

-- items of which some are at high addresses do not end low
pub not_low : (base : ℕ) (xs : List Item) (k a : ℕ) → k ≤ length xs → a ≡ place all_long base xs k → 0x70000000 ≤ a → IsTrue false ↔ IsLow base xs
not_low base xs k a le at high = not_true (IsLow base xs) (λ low. omega (arith, place_rises all_long base xs k (length xs) le))
