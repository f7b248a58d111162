-- Literals with a prefix that are found are the longest of their kind.
use Rattle.std.proofs.Common.{◌≡◌, ℕ, zero, suc, ◌+◌, ◌≤◌, ◌<◌, eqb, ◌&&◌, Bool, true, false, cond, List, [], ◌∷◌, length, take, drop, refl, subst, arith, inl, inr}
use Rattle.std.proofs.lemmas.Bool.{cases_Bool}
use Rattle.phases.specs.inside.Lexical.{enclosed, behind, is_prefix, character_len, string_len}
use Rattle.phases.specs.inside.Grammar.{is_enclosed, is_character, is_string}
use Rattle.phases.proofs.LongestLemmas.{enclosed_longest}

behind_below : (k n m : ℕ) → behind k n < k + m → 0 < m → n < m
behind_below k zero m h p = p
behind_below k (suc n) m h p = omega arith

-- a literal after one byte of prefix, or none
one_prefix : (t : Bool) (q least : ℕ) (b : ℕ) (bs : List ℕ) (m : ℕ) → behind (cond t 1 0) (enclosed q q least true (drop (cond t 1 0) (b ∷ bs))) < suc m → m ≤ length bs → is_enclosed q q least true (drop (cond t 1 0) (b ∷ take m bs)) ≡ false
one_prefix true q least b bs m h l =
    enclosed_longest q q least true bs m (λ p. behind_below 1 (enclosed q q least true bs) m (let e : suc m ≡ 1 + m = omega arith in subst (λ k. behind 1 (enclosed q q least true bs) < k) e h) p) l
one_prefix false q least b bs m h l =
    enclosed_longest q q least true (b ∷ bs) (suc m) (λ p. behind_below 0 (enclosed q q least true (b ∷ bs)) (suc m) (let e : suc m ≡ 0 + suc m = omega arith in subst (λ k. behind 0 (enclosed q q least true (b ∷ bs)) < k) e h) p) (omega arith)

pub character_longest : (bs : List ℕ) (m : ℕ) → character_len bs < m → m ≤ length bs → is_character (take m bs) ≡ false
character_longest [] m h l = absurd (omega arith)
character_longest (b ∷ bs) zero h l = absurd (omega arith)
character_longest (b ∷ bs) (suc m) h l = one_prefix (is_prefix b) 39 1 b bs m h (omega arith)

-- two bytes of prefix
two_prefix : (x y : Bool) (b c : ℕ) (bs : List ℕ) (m : ℕ) → behind (cond x 2 (cond y 1 0)) (enclosed 34 34 0 true (drop (cond x 2 (cond y 1 0)) (b ∷ c ∷ bs))) < suc (suc m) → suc m ≤ length (c ∷ bs) → is_enclosed 34 34 0 true (drop (cond x 2 (cond y 1 0)) (b ∷ c ∷ take m bs)) ≡ false
two_prefix true y b c bs m h l =
    enclosed_longest 34 34 0 true bs m (λ p. behind_below 2 (enclosed 34 34 0 true bs) m (let e : suc (suc m) ≡ 2 + m = omega arith in subst (λ k. behind 2 (enclosed 34 34 0 true bs) < k) e h) p) (omega arith)
two_prefix false y b c bs m h l = one_prefix y 34 0 b (c ∷ bs) (suc m) h l

first_alone : (y : Bool) (b : ℕ) → is_enclosed 34 34 0 true (drop (cond y 1 0) (b ∷ [])) ≡ false
first_alone true b = refl
first_alone false b = elim (cases_Bool (eqb b 34)) [ inl e ↦ rw e refl | inr e ↦ rw e refl ]

alone : (x y : Bool) (b : ℕ) → is_enclosed 34 34 0 true (drop (cond (x && false) 2 (cond y 1 0)) (b ∷ [])) ≡ false
alone true y b = first_alone y b
alone false y b = first_alone y b

string_alone : (b : ℕ) → is_string (b ∷ []) ≡ false
string_alone b = alone (eqb b 117) (is_prefix b) b

pub string_longest : (bs : List ℕ) (m : ℕ) → string_len bs < m → m ≤ length bs → is_string (take m bs) ≡ false
string_longest [] m h l = absurd (omega arith)
string_longest (b ∷ bs) zero h l = absurd (omega arith)
string_longest (b ∷ bs) (suc zero) h l = string_alone b
string_longest (b ∷ []) (suc (suc m)) h l = absurd (omega arith)
string_longest (b ∷ c ∷ bs) (suc (suc m)) h l = two_prefix (eqb b 117 && eqb c 56) (is_prefix b) b c bs m h (omega arith)
