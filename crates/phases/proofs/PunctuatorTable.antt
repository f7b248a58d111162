-- The table of punctuators, and the tests of a scanner.
use Rattle.std.proofs.Common.{◌≡◌, ℕ, eqb, ◌||◌, ◌&&◌, Bool, true, false, List, [], ◌∷◌, length, refl, sym, ap, ◌∙◌, subst, arith, inl, inr}
use Rattle.std.specs.Prelude.{nat_lt}
use Rattle.std.specs.List.{list_any}
use Rattle.std.specs.Str.{bytes_eq}
use Rattle.std.proofs.lemmas.Bool.{cases_Bool, eqb-true, and_right, and_parts, eqb-false, ne_eqb, eq-eqb, both_ways, le-ltb}
use Rattle.phases.specs.Grammar as spec
use Rattle.phases.specs.Grammar.{punctuators}
use Rattle.phases.specs.inside.Lexical.{one_of, seconds, is_pair, is_triple, is_quadruple}
use Rattle.phases.specs.inside.Grammar.{is_punctuator}

pub turned : (a b : ℕ) → eqb a b ≡ eqb b a
turned a b = elim (cases_Bool (eqb a b)) [ inl t ↦ t ∙ sym (eq-eqb b a (sym (eqb-true a b t))) | inr f ↦ f ∙ sym (ne_eqb b a (λ e. eqb-false a b f (sym e))) ]

pub and_true : (t : Bool) → (t && true) ≡ t
and_true true = refl
and_true false = refl

-- the texts of one byte
abbrev ones : List (List ℕ) → List ℕ
ones [] = []
ones ([] ∷ ts) = ones ts
ones ((x ∷ []) ∷ ts) = x ∷ ones ts
ones ((x ∷ y ∷ zs) ∷ ts) = ones ts

any_one : (a : ℕ) (ts : List (List ℕ)) → list_any (bytes_eq (a ∷ [])) ts ≡ one_of a (ones ts)
any_one a [] = refl
any_one a ([] ∷ ts) = any_one a ts
any_one a ((x ∷ []) ∷ ts) = rw (and_true (eqb a x), turned a x, any_one a ts) refl
any_one a ((x ∷ y ∷ zs) ∷ ts) = rw (and_right (eqb a x) false refl) (any_one a ts)

-- the texts of two bytes, three and four
abbrev Two : Type 0
Two = ℕ × ℕ

abbrev twos : List (List ℕ) → List Two
twos [] = []
twos ([] ∷ ts) = twos ts
twos ((x ∷ []) ∷ ts) = twos ts
twos ((x ∷ y ∷ []) ∷ ts) = (x, y) ∷ twos ts
twos ((x ∷ y ∷ z ∷ zs) ∷ ts) = twos ts

abbrev is_two : ℕ → ℕ → Two → Bool
is_two a b t = eqb a t.0 && eqb t.1 b

any_two : (a b : ℕ) (ts : List (List ℕ)) → list_any (bytes_eq (a ∷ b ∷ [])) ts ≡ list_any (is_two a b) (twos ts)
any_two a b [] = refl
any_two a b ([] ∷ ts) = any_two a b ts
any_two a b ((x ∷ []) ∷ ts) = rw (and_right (eqb a x) false refl) (any_two a b ts)
any_two a b ((x ∷ y ∷ []) ∷ ts) = rw (and_true (eqb b y), turned b y, any_two a b ts) refl
any_two a b ((x ∷ y ∷ z ∷ zs) ∷ ts) = rw (and_right (eqb b y) false refl, and_right (eqb a x) false refl) (any_two a b ts)

abbrev threes : List (List ℕ) → List (ℕ × ℕ × ℕ)
threes [] = []
threes ([] ∷ ts) = threes ts
threes ((x ∷ []) ∷ ts) = threes ts
threes ((x ∷ y ∷ []) ∷ ts) = threes ts
threes ((x ∷ y ∷ z ∷ []) ∷ ts) = (x, y, z) ∷ threes ts
threes ((x ∷ y ∷ z ∷ u ∷ us) ∷ ts) = threes ts

abbrev is_three : ℕ → ℕ → ℕ → ℕ × ℕ × ℕ → Bool
is_three a b c t = eqb a t.0 && (eqb b t.1 && eqb c t.2)

any_three : (a b c : ℕ) (ts : List (List ℕ)) → list_any (bytes_eq (a ∷ b ∷ c ∷ [])) ts ≡ list_any (is_three a b c) (threes ts)
any_three a b c [] = refl
any_three a b c ([] ∷ ts) = any_three a b c ts
any_three a b c ((x ∷ []) ∷ ts) = rw (and_right (eqb a x) false refl) (any_three a b c ts)
any_three a b c ((x ∷ y ∷ []) ∷ ts) = rw (and_right (eqb b y) false refl, and_right (eqb a x) false refl) (any_three a b c ts)
any_three a b c ((x ∷ y ∷ z ∷ []) ∷ ts) = rw (and_true (eqb c z), any_three a b c ts) refl
any_three a b c ((x ∷ y ∷ z ∷ u ∷ us) ∷ ts) =
    rw (and_right (eqb c z) false refl, and_right (eqb b y) false refl, and_right (eqb a x) false refl) (any_three a b c ts)

abbrev fours : List (List ℕ) → List (ℕ × ℕ × ℕ × ℕ)
fours [] = []
fours ([] ∷ ts) = fours ts
fours ((x ∷ []) ∷ ts) = fours ts
fours ((x ∷ y ∷ []) ∷ ts) = fours ts
fours ((x ∷ y ∷ z ∷ []) ∷ ts) = fours ts
fours ((x ∷ y ∷ z ∷ u ∷ []) ∷ ts) = (x, y, z, u) ∷ fours ts
fours ((x ∷ y ∷ z ∷ u ∷ v ∷ us) ∷ ts) = fours ts

abbrev is_four : ℕ → ℕ → ℕ → ℕ → ℕ × ℕ × ℕ × ℕ → Bool
is_four a b c d t = eqb a t.0 && (eqb b t.1 && (eqb c t.2 && eqb d t.3))

any_four : (a b c d : ℕ) (ts : List (List ℕ)) → list_any (bytes_eq (a ∷ b ∷ c ∷ d ∷ [])) ts ≡ list_any (is_four a b c d) (fours ts)
any_four a b c d [] = refl
any_four a b c d ([] ∷ ts) = any_four a b c d ts
any_four a b c d ((x ∷ []) ∷ ts) = rw (and_right (eqb a x) false refl) (any_four a b c d ts)
any_four a b c d ((x ∷ y ∷ []) ∷ ts) = rw (and_right (eqb b y) false refl, and_right (eqb a x) false refl) (any_four a b c d ts)
any_four a b c d ((x ∷ y ∷ z ∷ []) ∷ ts) =
    rw (and_right (eqb c z) false refl, and_right (eqb b y) false refl, and_right (eqb a x) false refl) (any_four a b c d ts)
any_four a b c d ((x ∷ y ∷ z ∷ u ∷ []) ∷ ts) = rw (and_true (eqb d u), any_four a b c d ts) refl
any_four a b c d ((x ∷ y ∷ z ∷ u ∷ v ∷ us) ∷ ts) =
    rw (and_right (eqb d u) false refl, and_right (eqb c z) false refl, and_right (eqb b y) false refl, and_right (eqb a x) false refl) (any_four a b c d ts)

-- no text is longer
abbrev all_short : List (List ℕ) → Bool
all_short [] = true
all_short (t ∷ ts) = nat_lt (length t) 5 && all_short ts

any_long : (a b c d e : ℕ) (bs : List ℕ) (ts : List (List ℕ)) → all_short ts ≡ true → list_any (bytes_eq (a ∷ b ∷ c ∷ d ∷ e ∷ bs)) ts ≡ false
any_long a b c d e bs [] h = refl
any_long a b c d e bs ([] ∷ ts) h = any_long a b c d e bs ts h
any_long a b c d e bs ((x ∷ []) ∷ ts) h = rw (and_right (eqb a x) false refl) (any_long a b c d e bs ts h)
any_long a b c d e bs ((x ∷ y ∷ []) ∷ ts) h = rw (and_right (eqb b y) false refl, and_right (eqb a x) false refl) (any_long a b c d e bs ts h)
any_long a b c d e bs ((x ∷ y ∷ z ∷ []) ∷ ts) h =
    rw (and_right (eqb c z) false refl, and_right (eqb b y) false refl, and_right (eqb a x) false refl) (any_long a b c d e bs ts h)
any_long a b c d e bs ((x ∷ y ∷ z ∷ u ∷ []) ∷ ts) h =
    rw (and_right (eqb d u) false refl, and_right (eqb c z) false refl, and_right (eqb b y) false refl, and_right (eqb a x) false refl) (any_long a b c d e bs ts h)
any_long a b c d e bs ((x ∷ y ∷ z ∷ u ∷ v ∷ us) ∷ ts) h =
    let long = x ∷ y ∷ z ∷ u ∷ v ∷ us in
    absurd (both_ways (nat_lt (length long) 5) (le-ltb (length long) 5 (omega arith)) (and_parts (nat_lt (length long) 5) (all_short ts) h).0)

-- a byte that begins some pairs, and one that begins none
by_first : (k a b : ℕ) (ps : List Two) → list_any (is_two k b) ps ≡ is_pair k b → (eqb a k ≡ false → list_any (is_two a b) ps ≡ is_pair a b)
    → list_any (is_two a b) ps ≡ is_pair a b
by_first k a b ps h f =
    elim (cases_Bool (eqb a k)) [ inl t ↦ subst (λ x. list_any (is_two x b) ps ≡ is_pair x b) (sym (eqb-true a k t)) h | inr t ↦ f t ]

pair_law : (a b : ℕ) → list_any (is_two a b) (twos punctuators) ≡ is_pair a b
unfolding punctuators seconds
pair_law a b =
    let ps = twos punctuators in
    by_first 45 a b ps refl (λ f1. by_first 43 a b ps refl (λ f2. by_first 38 a b ps refl (λ f3. by_first 124 a b ps refl (λ f4.
    by_first 60 a b ps refl (λ f5. by_first 62 a b ps refl (λ f6. by_first 37 a b ps refl (λ f7. by_first 58 a b ps refl (λ f8.
    by_first 35 a b ps refl (λ f9. by_first 42 a b ps refl (λ f10. by_first 47 a b ps refl (λ f11. by_first 94 a b ps refl (λ f12.
    by_first 61 a b ps refl (λ f13. by_first 33 a b ps refl (λ f14.
    rw (f1, f2, f3, f4, f5, f6, f7, f8, f9, f10, f11, f12, f13, f14) refl))))))))))))))

or_false : (t : Bool) → (t || false) ≡ t
or_false true = refl
or_false false = refl

-- after a first byte that is known
three_dots : (b c : Bool) → ((b && c) || false) ≡ (b && (c || false))
three_dots true c = refl
three_dots false c = refl

by_three : (k a b c : ℕ) → list_any (is_three k b c) (threes punctuators) ≡ is_triple k b c
    → (eqb a k ≡ false → list_any (is_three a b c) (threes punctuators) ≡ is_triple a b c)
    → list_any (is_three a b c) (threes punctuators) ≡ is_triple a b c
by_three k a b c h f =
    elim (cases_Bool (eqb a k)) [ inl t ↦ subst (λ x. list_any (is_three x b c) (threes punctuators) ≡ is_triple x b c) (sym (eqb-true a k t)) h | inr t ↦ f t ]

triple_law : (a b c : ℕ) → list_any (is_three a b c) (threes punctuators) ≡ is_triple a b c
unfolding punctuators
triple_law a b c =
    by_three 46 a b c (three_dots (eqb b 46) (eqb c 46) ∙ ap (λ t. t && (eqb c 46 || false)) (turned b 46)) (λ f.
    by_three 60 a b c (or_false (eqb b 60 && eqb c 61) ∙ ap (λ t. t && eqb c 61) (turned b 60)) (λ g.
    by_three 62 a b c (or_false (eqb b 62 && eqb c 61) ∙ ap (λ t. t && eqb c 61) (turned b 62)) (λ h.
    rw (f, g, h) (sym (and_right (eqb a b) false refl)))))

four_step : (p q r s : Bool) → ((p && (q && (r && s))) || false) ≡ ((p && q) && (r && s))
four_step false q r s = refl
four_step true false r s = refl
four_step true true false s = refl
four_step true true true false = refl
four_step true true true true = refl

quadruple_law : (a b c d : ℕ) → list_any (is_four a b c d) (fours punctuators) ≡ is_quadruple a b c d
unfolding punctuators
quadruple_law a b c d = four_step (eqb a 37) (eqb b 58) (eqb c 37) (eqb d 58)

pub punctuator_law : (text : List ℕ) → spec.is_punctuator text ≡ is_punctuator text
unfolding punctuators
punctuator_law [] = refl
punctuator_law (a ∷ []) = any_one a punctuators
punctuator_law (a ∷ b ∷ []) = any_two a b punctuators ∙ pair_law a b
punctuator_law (a ∷ b ∷ c ∷ []) = any_three a b c punctuators ∙ triple_law a b c
punctuator_law (a ∷ b ∷ c ∷ d ∷ []) = any_four a b c d punctuators ∙ quadruple_law a b c d
punctuator_law (a ∷ b ∷ c ∷ d ∷ e ∷ bs) = any_long a b c d e bs punctuators refl
