-- The texts of a table are bytes.
use Rattle.std.proofs.Common.{◌≡◌, ◌<◌, ◌≤◌, ℕ, ◌+◌, List, length, Option, Some, None, slice_get, inl, inr, ⊎_elim, ◌⊎◌, refl, sym, ◌∙◌, subst, arith}
use Rattle.std.proofs.lemmas.Option.{slice_get_within}
use Rattle.tac_code.specs.Sound.{AreBytes}
use Rattle.lower_wf.specs.Laws.{AreTexts}
use Rattle.std.proofs.lemmas.Bool.{cases_lt}

pub same_bytes : (o : Option (List ℕ)) (bytes text : List ℕ) → o ≡ Some text → o ≡ Some bytes → AreBytes bytes → AreBytes text
same_bytes o bytes text e f h = let same : bytes ≡ text = cc in subst AreBytes same h

-- the first n and number n
pub one_text : (texts : List (List ℕ)) (n : ℕ) → ((k : ℕ) (text : List ℕ) → k < n → slice_get texts k ≡ Some text → AreBytes text) → ((text : List ℕ) → slice_get texts n ≡ Some text → AreBytes text)
    → (k : ℕ) (text : List ℕ) → k < n + 1 → slice_get texts k ≡ Some text → AreBytes text
one_text texts n before this k text lt e =
    ⊎_elim (λ less. before k text less e) (λ no_less. let same : k ≡ n = omega (arith, lt, no_less) in this text (subst (λ j. slice_get texts j ≡ Some text) same e)) (cases_lt k n)

pub all_texts : (texts : List (List ℕ)) (n m : ℕ) → m ≡ length texts → m ≤ n → ((k : ℕ) (text : List ℕ) → k < n → slice_get texts k ≡ Some text → AreBytes text) → AreTexts texts
all_texts texts n m is le all k text e = let within = slice_get_within texts k text e in all k text (omega (arith, within, le, is)) e

pub no_text : (o : Option (List ℕ)) (text : List ℕ) → o ≡ Some text → o ≡ None → AreBytes text
no_text o text e f = absurd (let z : ⊥ = cc in z)
