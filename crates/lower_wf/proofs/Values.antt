-- The first values of objects with static storage are values of their types, and no more than their elements (6.7.9p10).
use Rattle.std.proofs.Common.{◌≡◌, ◌≤◌, ℕ, zero, suc, ◌+◌, ◌*◌, ◌-◌, ℤ, pos, true, List, [], ◌∷◌, ◌++◌, length, take, Option, Some, None, refl, sym, ap, subst, arith}
use Rattle.std.specs.Prelude.{slice_get}
use Rattle.std.proofs.lemmas.Bool.{and_from}
use Rattle.std.proofs.lemmas.List.{length-append}
use Rattle.ctypes.specs.declared.types.IntType.{IntType}
use Rattle.ctypes.specs.declared.types.IntType.TheVariants as ty
use Rattle.ctypes.specs.Types.{is_value_of, converted}
use Rattle.typing_spec.specs.Types.{elements_in}
use Rattle.typing_spec.specs.Program as typed
use Rattle.typing_spec.specs.Program.{Initialiser, Initialisers, Static}
use Rattle.typing_spec.specs.Verdict.{fine, then_check, IfFine}
use Rattle.typing_spec.specs.Scope.{Scope}
use Rattle.typing_spec.specs.Constants.{folded}
use Rattle.typing_spec.specs.Initialisers as rules
use Rattle.typing_spec.specs.Initialisers.{zeros, padded, characters, text_at, literal_text}
use Rattle.typing_spec.specs.WellTyped.{values_fit, initialisers_in}
use Rattle.lower_wf.proofs.Same.{both_true}
use Rattle.lower_wf.proofs.Verdicts.{then_any, then_some, both_some, more_of, both_of}
use Rattle.lower_wf.proofs.Ground.{Setting, TextsEnd, text_in}
use Rattle.lower_wf.proofs.Typings.{converted_is_value}
use Rattle.lower_wf.proofs.Initials.{Shape}

zero_is_value : (t : IntType) → is_value_of t (pos 0) ≡ true
zero_is_value ty.Bool = refl
zero_is_value ty.Char = refl
zero_is_value ty.SChar = refl
zero_is_value ty.UChar = refl
zero_is_value ty.Short = refl
zero_is_value ty.UShort = refl
zero_is_value ty.Int = refl
zero_is_value ty.UInt = refl
zero_is_value ty.Long = refl
zero_is_value ty.ULong = refl

-- ---- values of the type

zeros_fit : (t : IntType) (n : ℕ) → values_fit t (zeros n) ≡ true
zeros_fit t zero = refl
zeros_fit t (suc n) = and_from (is_value_of t (pos 0)) (values_fit t (zeros n)) (zero_is_value t) (zeros_fit t n)

joined_fit : (t : IntType) (vs ws : List ℤ) → values_fit t vs ≡ true → values_fit t ws ≡ true → values_fit t (vs ++ ws) ≡ true
joined_fit t [] ws h k = k
joined_fit t (v ∷ vs) ws h k = let w = both_true (is_value_of t v) (values_fit t vs) h in and_from (is_value_of t v) (values_fit t (vs ++ ws)) w.0 (joined_fit t vs ws w.1 k)

taken_fit : (t : IntType) (n : ℕ) (vs : List ℤ) → values_fit t vs ≡ true → values_fit t (take n vs) ≡ true
taken_fit t zero vs h = refl
taken_fit t (suc n) [] h = refl
taken_fit t (suc n) (v ∷ vs) h = let w = both_true (is_value_of t v) (values_fit t vs) h in and_from (is_value_of t v) (values_fit t (take n vs)) w.0 (taken_fit t n vs w.1)

characters_fit : (t : IntType) (cs : List ℕ) → values_fit t (characters t cs) ≡ true
characters_fit t [] = refl
characters_fit t (c ∷ cs) = and_from (is_value_of t (converted t (pos c))) (values_fit t (characters t cs)) (converted_is_value t (pos c)) (characters_fit t cs)

abbrev pub Fit : IntType → List ℤ → Type 0
Fit t vs = values_fit t vs ≡ true

mutual
  pub values_are : (s : Scope) (t : IntType) (l : List ℕ) (x : Initialiser) → IfFine (Fit t) (rules.values s t l x)
  values_are s t l (typed.one_value u e) = then_any (Fit t) (folded e) _ (λ v. and_from (is_value_of t (converted t v)) true (converted_is_value t v) refl)
  values_are s t l (typed.text n) = characters_fit t (text_at s n)
  values_are s t l (typed.in_braces i) = values_are s t l i
  values_are s t [] (typed.list is) = refl
  values_are s t (n ∷ l) (typed.list is) = all_are s t l is

  all_are : (s : Scope) (t : IntType) (l : List ℕ) (is : Initialisers) → IfFine (Fit t) (rules.all_values s t l is)
  all_are s t l typed.no_initialisers = refl
  all_are s t l (typed.and_initialiser i is) =
      both_some (Fit t) (Fit t) (Fit t) (then_check (rules.values s t l i) (λ vs. fine (padded (elements_in l) vs))) (rules.all_values s t l is) rules.and_values
      (then_some (Fit t) (Fit t) (rules.values s t l i) (λ vs. fine (padded (elements_in l) vs)) (values_are s t l i) (λ vs h.
      taken_fit t (elements_in l) (vs ++ zeros (elements_in l - length vs)) (joined_fit t vs (zeros (elements_in l - length vs)) h (zeros_fit t (elements_in l - length vs)))))
      (all_are s t l is) (λ vs ws h k. joined_fit t vs ws h k)

-- ---- how many

length_at_most : {A : Type 0} (n : ℕ) (xs : List A) → length (take n xs) ≤ n
length_at_most zero xs = omega arith
length_at_most (suc n) [] = omega arith
length_at_most (suc n) (x ∷ xs) = omega (arith, length_at_most n xs)

characters_length : (t : IntType) (cs : List ℕ) → length (characters t cs) ≡ length cs
characters_length t [] = refl
characters_length t (c ∷ cs) = ap suc (characters_length t cs)

abbrev AtMost : ℕ → List ℤ → Type 0
AtMost n vs = length vs ≤ n

one_more_row : (a b n k : ℕ) → a ≤ k → b ≤ n * k → a + b ≤ (n + 1) * k
one_more_row a b n k h l = let e : (n + 1) * k ≡ k + n * k = grind arith in omega (arith, h, l, e)

all_length : (s : Scope) (t : IntType) (l : List ℕ) (is : Initialisers) → IfFine (AtMost (initialisers_in is * elements_in l)) (rules.all_values s t l is)
all_length s t l typed.no_initialisers = omega arith
all_length s t l (typed.and_initialiser i is) =
    both_some (AtMost (elements_in l)) (AtMost (initialisers_in is * elements_in l)) (AtMost ((initialisers_in is + 1) * elements_in l)) (then_check (rules.values s t l i) (λ vs. fine (padded (elements_in l) vs))) (rules.all_values s t l is) rules.and_values
    (then_any (AtMost (elements_in l)) (rules.values s t l i) (λ vs. fine (padded (elements_in l) vs)) (λ vs. length_at_most (elements_in l) (vs ++ zeros (elements_in l - length vs))))
    (all_length s t l is) (λ vs ws h k. subst (λ n. n ≤ (initialisers_in is + 1) * elements_in l) (sym (length-append vs ws)) (one_more_row (length vs) (length ws) (initialisers_in is) (elements_in l) h k))

more_rows : (a b k n : ℕ) → n ≤ a * k → a ≤ b → n ≤ b * k
more_rows a b k n h l = let e : a * k ≤ b * k = grind (arith, l) in omega (arith, h, e)

module _ (W : Setting) (s : Scope) (texts : s.texts ≡ W.texts) (ends : TextsEnd W s.literals) where
  abbrev Short : ℕ → ℕ → Type 0
  Short m n = (t : List ℕ) → slice_get W.program.literals n ≡ Some t → length t ≤ m + 1

  literal_length : (m n : ℕ) (o : Option ℕ) → o ≡ slice_get s.literals n → Short m n → length (literal_text s o) ≤ m
  literal_length m n None e h = omega arith
  literal_length m n (Some k) e h =
      let less = h (text_in W.texts k ++ 0 ∷ []) (ends n k (sym e)) in
      let long : length (text_in W.texts k ++ 0 ∷ []) ≡ length (text_in W.texts k) + 1 = length-append (text_in W.texts k) (0 ∷ []) in
      subst (λ T. length (text_in T k) ≤ m) (sym texts) (omega (arith, less, long))

  single : (t : IntType) (x : Initialiser) → Shape W [] x → IfFine (AtMost 1) (rules.values s t [] x)
  single t (typed.one_value u e) h = then_any (AtMost 1) (folded e) _ (λ v. omega arith)
  single t (typed.text n) h = absurd h
  single t (typed.in_braces i) h = single t i h
  single t (typed.list is) h = absurd h

  many : (t : IntType) (n m : ℕ) (l : List ℕ) (x : Initialiser) → Shape W (m ∷ l) x → IfFine (AtMost (m * elements_in l)) (rules.values s t (n ∷ l) x)
  many t n m l (typed.one_value u e) h = absurd (let z : ⊥ = cc in z)
  many t n m [] (typed.text k) h =
      let less = literal_length m k (slice_get s.literals k) refl h in
      let long = characters_length t (text_at s k) in
      let e : m * 1 ≡ m = grind arith in omega (arith, less, long, e)
  many t n m (a ∷ l) (typed.text k) h = absurd h
  many t n m l (typed.in_braces i) h = many t n m l i h
  many t n m l (typed.list is) h =
      more_of (AtMost (initialisers_in is * elements_in l)) (AtMost (m * elements_in l)) (rules.all_values s t l is) (λ vs g. more_rows (initialisers_in is) m (elements_in l) (length vs) g h) (all_length s t l is)

  -- of an object of these lengths, of which the outermost may be another where the values are laid out
  abbrev pub AreLaid : IntType → List ℕ → List ℤ → Type 0
  AreLaid t l vs = (values_fit t vs ≡ true) × (length vs ≤ elements_in l)

  pub single_laid : (t : IntType) (x : Initialiser) → Shape W [] x → IfFine (AreLaid t []) (rules.values s t [] x)
  single_laid t x h = both_of (Fit t) (AtMost 1) (rules.values s t [] x) (values_are s t [] x) (single t x h)

  pub many_laid : (t : IntType) (n m : ℕ) (l : List ℕ) (x : Initialiser) → Shape W (m ∷ l) x → IfFine (AreLaid t (m ∷ l)) (rules.values s t (n ∷ l) x)
  many_laid t n m l x h = both_of (Fit t) (AtMost (m * elements_in l)) (rules.values s t (n ∷ l) x) (values_are s t (n ∷ l) x) (many t n m l x h)
