-- No text is of two kinds, by its first bytes.
use Rattle.std.proofs.Common.{◌≡◌, ◌⊎◌, ℕ, zero, suc, ◌<◌, eqb, leb, ◌||◌, ◌&&◌, Bool, true, false, cond, List, [], ◌∷◌, drop, slice_index, refl, sym, ◌∙◌, subst, arith, inl, inr}
use Rattle.std.specs.List.{list_any}
use Rattle.std.specs.Str.{bytes_eq}
use Rattle.std.proofs.lemmas.Bool.{or_cases, or_left, or_right, or_parts, and_parts, eqb-true, leb-true, both_ways}
use Rattle.std.proofs.lemmas.Slice.Eq.{bytes_eq-Decides}
use Rattle.phases.specs.declared.token.Kind.TheVariants.{Identifier, Number, CharacterConstant, StringLiteral, HeaderName, Punctuator, Other}
use Rattle.phases.specs.Characters.{is_digit, is_letter, is_word, is_prefix}
use Rattle.phases.specs.Grammar.{all_word, is_identifier, begins_digit, begins_number, continues, is_number, is_quoted, is_character, is_string, punctuators, is_punctuator}
use Rattle.phases.specs.Kinds.{KindsExclude}

clash : (t : Bool) → t ≡ true → t ≡ false → ⊥
clash t h g = both_ways t g h

-- ---- the quote that opens a literal

by_prefix : (P : ℕ → Type 0) → P 76 → P 117 → P 85 → (b : ℕ) → is_prefix b ≡ true → P b
by_prefix P l u v b h =
    elim (or_cases (eqb b 76 || eqb b 117) (eqb b 85) h) [
      | inl t ↦ elim (or_cases (eqb b 76) (eqb b 117) t) [ inl x ↦ subst P (sym (eqb-true b 76 x)) l | inr x ↦ subst P (sym (eqb-true b 117 x)) u ]
      | inr t ↦ subst P (sym (eqb-true b 85 t)) v
    ]

-- it follows a prefix of one byte or of two
abbrev Behind : ℕ → List ℕ → Type 0
Behind quote bs = (slice_index bs 0 ≡ quote) ⊎ ((slice_index bs 0 ≡ 56) × (slice_index bs 1 ≡ quote))

-- it comes first, or follows a prefix
abbrev Opens : ℕ → ℕ → List ℕ → Type 0
Opens quote b bs = (b ≡ quote) ⊎ ((is_prefix b ≡ true) × Behind quote bs)

quoted_at : (quote least : ℕ) (bs : List ℕ) → is_quoted quote least bs ≡ true → slice_index bs 0 ≡ quote
quoted_at quote least [] h = absurd (cc)
quoted_at quote least (b ∷ bs) h = eqb-true b quote (and_parts (eqb b quote) _ h).0

second_at : (bs : List ℕ) → slice_index (drop 1 bs) 0 ≡ slice_index bs 1
second_at [] = refl
second_at (b ∷ bs) = refl

one_opens : (t : Bool) (quote least b : ℕ) (bs : List ℕ) → is_prefix b ≡ t → is_quoted quote least (drop (cond t 1 0) (b ∷ bs)) ≡ true → Opens quote b bs
one_opens true quote least b bs p h = inr (p, inl (quoted_at quote least bs h))
one_opens false quote least b bs p h = inl (quoted_at quote least (b ∷ bs) h)

character_opens : (b : ℕ) (bs : List ℕ) → is_character (b ∷ bs) ≡ true → Opens 39 b bs
character_opens b bs h = one_opens (is_prefix b) 39 1 b bs refl h

u_is_prefix : (b : ℕ) → eqb b 117 ≡ true → is_prefix b ≡ true
u_is_prefix b h = or_left (eqb b 76 || eqb b 117) (eqb b 85) (or_right (eqb b 76) (eqb b 117) h)

two_opens : (t : Bool) (b : ℕ) (bs : List ℕ) → (eqb b 117 && eqb (slice_index bs 0) 56) ≡ t
    → is_quoted 34 0 (drop (cond t 2 (cond (is_prefix b) 1 0)) (b ∷ bs)) ≡ true → Opens 34 b bs
two_opens true b bs p h =
    let e = and_parts (eqb b 117) _ p in
    inr (u_is_prefix b e.0, inr (eqb-true (slice_index bs 0) 56 e.1, sym (second_at bs) ∙ quoted_at 34 0 (drop 1 bs) h))
two_opens false b bs p h = one_opens (is_prefix b) 34 0 b bs refl h

string_opens : (b : ℕ) (bs : List ℕ) → is_string (b ∷ bs) ≡ true → Opens 34 b bs
string_opens b bs h = two_opens (eqb b 117 && eqb (slice_index bs 0) 56) b bs refl h

-- ---- other properties of the first bytes

word_at : (bs : List ℕ) (n quote : ℕ) → all_word bs ≡ true → slice_index bs n ≡ quote → 0 < quote → is_word quote ≡ true
word_at [] n quote h e p = absurd (omega arith)
word_at (b ∷ bs) zero quote h e p = subst (λ k. is_word k ≡ true) e (and_parts (is_word b) (all_word bs) h).0
word_at (b ∷ bs) (suc n) quote h e p = word_at bs n quote (and_parts (is_word b) (all_word bs) h).1 e p

identifier_opens : (quote b : ℕ) (bs : List ℕ) → is_word quote ≡ false → 0 < quote → is_identifier (b ∷ bs) ≡ true → Opens quote b bs → ⊥
identifier_opens quote b bs w p h (inl e) =
    clash (is_word quote) (subst (λ k. is_word k ≡ true) e (or_left (is_letter b) (is_digit b) (and_parts (is_letter b) (all_word bs) h).0)) w
identifier_opens quote b bs w p h (inr (x, inl e)) = clash (is_word quote) (word_at bs 0 quote (and_parts (is_letter b) (all_word bs) h).1 e p) w
identifier_opens quote b bs w p h (inr (x, inr e)) = clash (is_word quote) (word_at bs 1 quote (and_parts (is_letter b) (all_word bs) h).1 e.1 p) w

prefix_no_number : (b : ℕ) (bs : List ℕ) → is_prefix b ≡ true → begins_number b bs ≡ false
prefix_no_number b bs h = by_prefix (λ k. begins_number k bs ≡ false) refl refl refl b h

number_opens : (quote b : ℕ) (bs : List ℕ) → begins_number quote bs ≡ false → is_number (b ∷ bs) ≡ true → Opens quote b bs → ⊥
number_opens quote b bs w h (inl e) =
    clash (begins_number b bs) (and_parts (begins_number b bs) (continues b bs) h).0 (subst (λ k. begins_number k bs ≡ false) (sym e) w)
number_opens quote b bs w h (inr x) = clash (begins_number b bs) (and_parts (begins_number b bs) (continues b bs) h).0 (prefix_no_number b bs x.0)

prefix_no_quote : (b quote : ℕ) → is_prefix b ≡ true → is_prefix quote ≡ false → b ≡ quote → ⊥
prefix_no_quote b quote h w e = clash (is_prefix quote) (subst (λ k. is_prefix k ≡ true) e h) w

behind_two : (bs : List ℕ) → Behind 39 bs → Behind 34 bs → ⊥
behind_two bs (inl d) (inl e) = omega (arith, d, e)
behind_two bs (inl d) (inr e) = omega (arith, d, e.0)
behind_two bs (inr d) (inl e) = omega (arith, d.0, e)
behind_two bs (inr d) (inr e) = omega (arith, d.1, e.1)

opens_two : (b : ℕ) (bs : List ℕ) → Opens 39 b bs → Opens 34 b bs → ⊥
opens_two b bs (inl d) (inl e) = omega (arith, d, e)
opens_two b bs (inl d) (inr e) = prefix_no_quote b 39 e.0 refl d
opens_two b bs (inr d) (inl e) = prefix_no_quote b 34 d.0 refl e
opens_two b bs (inr d) (inr e) = behind_two bs d.1 e.1

letter_no_digit : (b : ℕ) → is_letter b ≡ true → is_digit b ≡ true → ⊥
letter_no_digit b h d =
    let r = and_parts (leb 48 b) (leb b 57) d in
    let high = leb-true b 57 r.1 in
    elim (or_cases ((leb 97 b && leb b 122) || (leb 65 b && leb b 90)) (eqb b 95) h) [
      | inl t ↦ elim (or_cases (leb 97 b && leb b 122) (leb 65 b && leb b 90) t) [
        | inl x ↦ (let l = leb-true 97 b (and_parts (leb 97 b) (leb b 122) x).0 in omega (arith, high, l))
        | inr x ↦ (let l = leb-true 65 b (and_parts (leb 65 b) (leb b 90) x).0 in omega (arith, high, l))
      ]
      | inr t ↦ (let e = eqb-true b 95 t in omega (arith, high, e))
    ]

letter_no_number : (b : ℕ) (bs : List ℕ) → is_letter b ≡ true → begins_number b bs ≡ true → ⊥
letter_no_number b bs h g =
    elim (or_cases (is_digit b) (eqb b 46 && begins_digit bs) g) [
      | inl t ↦ letter_no_digit b h t
      | inr t ↦ (let e = eqb-true b 46 (and_parts (eqb b 46) (begins_digit bs) t).0 in clash (is_letter 46) (subst (λ k. is_letter k ≡ true) e h) refl)
    ]

-- ---- punctuators

-- the text begins as one of the other kinds
abbrev begins : List ℕ → Bool
begins [] = false
begins (b ∷ bs) = is_letter b || (begins_number b bs || (eqb b 39 || eqb b 34))

letter_begins : (b : ℕ) (bs : List ℕ) → is_letter b ≡ true → begins (b ∷ bs) ≡ true
letter_begins b bs h = or_left (is_letter b) _ h

prefix_begins : (b : ℕ) (bs : List ℕ) → is_prefix b ≡ true → begins (b ∷ bs) ≡ true
prefix_begins b bs h = by_prefix (λ k. begins (k ∷ bs) ≡ true) refl refl refl b h

opens_begins : (quote b : ℕ) (bs : List ℕ) → begins (quote ∷ bs) ≡ true → Opens quote b bs → begins (b ∷ bs) ≡ true
opens_begins quote b bs w (inl e) = subst (λ k. begins (k ∷ bs) ≡ true) (sym e) w
opens_begins quote b bs w (inr x) = prefix_begins b bs x.0

none_begins : (ts : List (List ℕ)) (text : List ℕ) → list_any begins ts ≡ false → list_any (bytes_eq text) ts ≡ true → begins text ≡ true → ⊥
none_begins [] text h g b = absurd (cc)
none_begins (t ∷ ts) text h g b =
    let p = or_parts (begins t) (list_any begins ts) h in
    elim (or_cases (bytes_eq text t) (list_any (bytes_eq text) ts) g) [
      | inl e ↦ clash (begins t) (subst (λ x. begins x ≡ true) ((bytes_eq-Decides text t).0 e) b) p.0
      | inr e ↦ none_begins ts text p.1 e b
    ]

none_listed : list_any begins punctuators ≡ false
unfolding punctuators
none_listed = refl

punctuator_begins : (text : List ℕ) → is_punctuator text ≡ true → begins text ≡ true → ⊥
punctuator_begins text h b = none_begins punctuators text none_listed h b

-- ---- each two kinds

not_identifier_number : (text : List ℕ) → is_identifier text ≡ true → is_number text ≡ true → ⊥
not_identifier_number [] h g = absurd (cc)
not_identifier_number (b ∷ bs) h g = letter_no_number b bs (and_parts (is_letter b) _ h).0 (and_parts (begins_number b bs) _ g).0

not_identifier_character : (text : List ℕ) → is_identifier text ≡ true → is_character text ≡ true → ⊥
not_identifier_character [] h g = absurd (cc)
not_identifier_character (b ∷ bs) h g = identifier_opens 39 b bs refl (omega arith) h (character_opens b bs g)

not_identifier_string : (text : List ℕ) → is_identifier text ≡ true → is_string text ≡ true → ⊥
not_identifier_string [] h g = absurd (cc)
not_identifier_string (b ∷ bs) h g = identifier_opens 34 b bs refl (omega arith) h (string_opens b bs g)

not_identifier_punctuator : (text : List ℕ) → is_identifier text ≡ true → is_punctuator text ≡ true → ⊥
not_identifier_punctuator [] h g = absurd (cc)
not_identifier_punctuator (b ∷ bs) h g = punctuator_begins (b ∷ bs) g (letter_begins b bs (and_parts (is_letter b) _ h).0)

not_number_character : (text : List ℕ) → is_number text ≡ true → is_character text ≡ true → ⊥
not_number_character [] h g = absurd (cc)
not_number_character (b ∷ bs) h g = number_opens 39 b bs refl h (character_opens b bs g)

not_number_string : (text : List ℕ) → is_number text ≡ true → is_string text ≡ true → ⊥
not_number_string [] h g = absurd (cc)
not_number_string (b ∷ bs) h g = number_opens 34 b bs refl h (string_opens b bs g)

not_number_punctuator : (text : List ℕ) → is_number text ≡ true → is_punctuator text ≡ true → ⊥
not_number_punctuator [] h g = absurd (cc)
not_number_punctuator (b ∷ bs) h g =
    punctuator_begins (b ∷ bs) g (or_right (is_letter b) _ (or_left (begins_number b bs) _ (and_parts (begins_number b bs) _ h).0))

not_character_string : (text : List ℕ) → is_character text ≡ true → is_string text ≡ true → ⊥
not_character_string [] h g = absurd (cc)
not_character_string (b ∷ bs) h g = opens_two b bs (character_opens b bs h) (string_opens b bs g)

not_character_punctuator : (text : List ℕ) → is_character text ≡ true → is_punctuator text ≡ true → ⊥
not_character_punctuator [] h g = absurd (cc)
not_character_punctuator (b ∷ bs) h g = punctuator_begins (b ∷ bs) g (opens_begins 39 b bs refl (character_opens b bs h))

not_string_punctuator : (text : List ℕ) → is_string text ≡ true → is_punctuator text ≡ true → ⊥
not_string_punctuator [] h g = absurd (cc)
not_string_punctuator (b ∷ bs) h g = punctuator_begins (b ∷ bs) g (opens_begins 34 b bs refl (string_opens b bs h))

pub kinds_exclude : KindsExclude
kinds_exclude text HeaderName l x y h g = absurd (cc)
kinds_exclude text Other l x y h g = absurd (cc)
kinds_exclude text Identifier HeaderName x y h g = absurd (cc)
kinds_exclude text Number HeaderName x y h g = absurd (cc)
kinds_exclude text CharacterConstant HeaderName x y h g = absurd (cc)
kinds_exclude text StringLiteral HeaderName x y h g = absurd (cc)
kinds_exclude text Punctuator HeaderName x y h g = absurd (cc)
kinds_exclude text Identifier Other x y h g = absurd (cc)
kinds_exclude text Number Other x y h g = absurd (cc)
kinds_exclude text CharacterConstant Other x y h g = absurd (cc)
kinds_exclude text StringLiteral Other x y h g = absurd (cc)
kinds_exclude text Punctuator Other x y h g = absurd (cc)
kinds_exclude text Identifier Identifier x y h g = refl
kinds_exclude text Number Number x y h g = refl
kinds_exclude text CharacterConstant CharacterConstant x y h g = refl
kinds_exclude text StringLiteral StringLiteral x y h g = refl
kinds_exclude text Punctuator Punctuator x y h g = refl
kinds_exclude text Identifier Number x y h g = absurd (not_identifier_number text h g)
kinds_exclude text Number Identifier x y h g = absurd (not_identifier_number text g h)
kinds_exclude text Identifier CharacterConstant x y h g = absurd (not_identifier_character text h g)
kinds_exclude text CharacterConstant Identifier x y h g = absurd (not_identifier_character text g h)
kinds_exclude text Identifier StringLiteral x y h g = absurd (not_identifier_string text h g)
kinds_exclude text StringLiteral Identifier x y h g = absurd (not_identifier_string text g h)
kinds_exclude text Identifier Punctuator x y h g = absurd (not_identifier_punctuator text h g)
kinds_exclude text Punctuator Identifier x y h g = absurd (not_identifier_punctuator text g h)
kinds_exclude text Number CharacterConstant x y h g = absurd (not_number_character text h g)
kinds_exclude text CharacterConstant Number x y h g = absurd (not_number_character text g h)
kinds_exclude text Number StringLiteral x y h g = absurd (not_number_string text h g)
kinds_exclude text StringLiteral Number x y h g = absurd (not_number_string text g h)
kinds_exclude text Number Punctuator x y h g = absurd (not_number_punctuator text h g)
kinds_exclude text Punctuator Number x y h g = absurd (not_number_punctuator text g h)
kinds_exclude text CharacterConstant StringLiteral x y h g = absurd (not_character_string text h g)
kinds_exclude text StringLiteral CharacterConstant x y h g = absurd (not_character_string text g h)
kinds_exclude text CharacterConstant Punctuator x y h g = absurd (not_character_punctuator text h g)
kinds_exclude text Punctuator CharacterConstant x y h g = absurd (not_character_punctuator text g h)
kinds_exclude text StringLiteral Punctuator x y h g = absurd (not_string_punctuator text h g)
kinds_exclude text Punctuator StringLiteral x y h g = absurd (not_string_punctuator text g h)
