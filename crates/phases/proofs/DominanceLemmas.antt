-- The kind that comes first is the longest of all kinds.
use Rattle.std.proofs.Common.{◌≡◌, ℕ, zero, suc, slice_index, ◌≤◌, ◌<◌, eqb, leb, ◌||◌, ◌&&◌, Bool, true, false, cond, List, [], ◌∷◌, drop, refl, sym, subst, arith, inl, inr}
use Rattle.std.proofs.lemmas.Bool.{cases_lt, ne_eqb, eqb-true, lt-ltb, le-ltb, and_right, and_left, and_parts, or_cases, or_left, or_right, or_from, lt-leb, leb-true, both_ways}
use Rattle.phases.specs.inside.Lexical.{is_digit, is_letter, is_word, word_len, name_len, number_len, begins_number, begins_digit, enclosed, behind, is_prefix, character_len, string_len, seconds, is_single, is_pair, is_triple, is_quadruple, punctuator_of, punctuator_len, first_kind, plain_token}

-- a byte of a word is no other byte
pub not_word : (b k : ℕ) → is_word b ≡ true → is_word k ≡ false → eqb b k ≡ false
not_word b k h z = ne_eqb b k (λ e. both_ways (is_word k) z (subst (λ x. is_word x ≡ true) e h))

-- no punctuator of two characters begins with a byte of a word
word_seconds : (b : ℕ) → is_word b ≡ true → seconds b ≡ []
unfolding seconds
word_seconds b h =
    rw (not_word b 45 h refl, not_word b 43 h refl, not_word b 38 h refl, not_word b 124 h refl, not_word b 60 h refl, not_word b 62 h refl, not_word b 37 h refl, not_word b 58 h refl, not_word b 35 h refl, not_word b 42 h refl, not_word b 47 h refl, not_word b 94 h refl, not_word b 61 h refl, not_word b 33 h refl) refl

at_most_one : (q t p s : Bool) → q ≡ false → t ≡ false → p ≡ false → cond q 4 (cond t 3 (cond p 2 (cond s 1 0))) ≤ 1
at_most_one true t p s e f g = absurd (cc)
at_most_one false true p s e f g = absurd (cc)
at_most_one false false true s e f g = absurd (cc)
at_most_one false false false true e f g = omega arith
at_most_one false false false false e f g = omega arith

word_punctuator : (a b c d : ℕ) → is_word a ≡ true → punctuator_of a b c d ≤ 1
word_punctuator a b c d h =
    let q : is_quadruple a b c d ≡ false = rw (not_word a 37 h refl) refl in
    let t : is_triple a b c ≡ false = rw (not_word a 46 h refl, not_word a 60 h refl, not_word a 62 h refl) (and_right (eqb a b) false refl) in
    let p : is_pair a b ≡ false = rw (word_seconds a h) refl in
    at_most_one (is_quadruple a b c d) (is_triple a b c) (is_pair a b) (is_single a) q t p

prefix_letter : (b : ℕ) → is_prefix b ≡ true → is_letter b ≡ true
prefix_letter b h =
    elim (or_cases (eqb b 76 || eqb b 117) (eqb b 85) h) [ inl u ↦ elim (or_cases (eqb b 76) (eqb b 117) u) [ inl e ↦ subst (λ x. is_letter x ≡ true) (sym (eqb-true b 76 e)) refl | inr e ↦ subst (λ x. is_letter x ≡ true) (sym (eqb-true b 117 e)) refl ] | inr e ↦ subst (λ x. is_letter x ≡ true) (sym (eqb-true b 85 e)) refl ]

letter_word : (b : ℕ) → is_letter b ≡ true → is_word b ≡ true
letter_word b h = or_left (is_letter b) (is_digit b) h

prefix_word : (b : ℕ) → is_prefix b ≡ true → is_word b ≡ true
prefix_word b h = letter_word b (prefix_letter b h)

pub letter_above : (b : ℕ) → is_letter b ≡ true → 57 < b
letter_above b h =
    elim (or_cases ((leb 97 b && leb b 122) || (leb 65 b && leb b 90)) (eqb b 95) h) [ inl u ↦ elim (or_cases (leb 97 b && leb b 122) (leb 65 b && leb b 90) u) [ inl e ↦ (let x = leb-true 97 b (and_parts (leb 97 b) (leb b 122) e).0 in omega arith) | inr e ↦ (let x = leb-true 65 b (and_parts (leb 65 b) (leb b 90) e).0 in omega arith) ] | inr e ↦ (let x = eqb-true b 95 e in omega arith) ]

letter_number : (b : ℕ) (bs : List ℕ) → is_letter b ≡ true → number_len (b ∷ bs) ≡ 0
letter_number b bs h =
    let a = letter_above b h in
    let d : is_digit b ≡ false = and_right (leb 48 b) (leb b 57) (lt-leb b 57 a) in
    let n : b ≡ 46 → ⊥ = λ x. omega arith in
    let e : begins_number b bs ≡ false = or_from (is_digit b) (eqb b 46 && begins_digit bs) d (and_left (eqb b 46) (begins_digit bs) (ne_eqb b 46 n)) in
    rw e refl

name_one : (t w : Bool) (k : ℕ) → w ≡ false → cond t (suc (cond w (suc k) 0)) 0 ≤ 1
name_one true true k h = absurd (cc)
name_one true false k h = omega arith
name_one false w k h = omega arith

-- upper bounds for the lengths of the other kinds
pub record AtMost (bs : List ℕ) (k : ℕ) : Type 0 where
  pub name : name_len bs ≤ k
  pub number : number_len bs ≡ 0
  pub punctuator : punctuator_len bs ≤ 1

no_triple_from : (a b c : ℕ) → (((eqb a 46) && (eqb c 46)) || ((eqb a 60 || eqb a 62) && eqb c 61)) ≡ false → is_triple a b c ≡ false
no_triple_from a b c h = and_right (eqb a b) _ h

-- a text that begins with a quote
single_quote : (bs : List ℕ) → (string_len (39 ∷ bs) ≡ 0) × AtMost (39 ∷ bs) 0
unfolding seconds
single_quote bs =
    (refl, record { name = omega arith; number = refl; punctuator = at_most_one _ (is_triple 39 (slice_index bs 0) (slice_index bs 1)) _ (is_single 39) refl (no_triple_from 39 (slice_index bs 0) (slice_index bs 1) refl) refl })

double_quote : (bs : List ℕ) → AtMost (34 ∷ bs) 0
unfolding seconds
double_quote bs =
    record { name = omega arith; number = refl; punctuator = at_most_one _ (is_triple 34 (slice_index bs 0) (slice_index bs 1)) _ (is_single 34) refl (no_triple_from 34 (slice_index bs 0) (slice_index bs 1) refl) refl }

-- a text that begins with a prefix and this byte, which belongs to no word
after_prefix : (b q : ℕ) (bs : List ℕ) → is_prefix b ≡ true → is_word q ≡ false → AtMost (b ∷ q ∷ bs) 1
after_prefix b q bs h z =
    let w : is_word b ≡ true = prefix_word b h in
    record {
      name = name_one (is_letter b) (is_word q) (word_len bs) z;
      number = letter_number b (q ∷ bs) (prefix_letter b h);
      punctuator = word_punctuator b q (slice_index bs 0) (slice_index bs 1) w;
    }

opened : (t : Bool) (x : ℕ) → 0 < cond t x 0 → t ≡ true
opened true x h = refl
opened false x h = absurd (omega arith)

behind_zero : (k e : ℕ) → 0 < behind k e → 0 < e
behind_zero k zero h = absurd (omega arith)
behind_zero k (suc e) h = omega arith

behind_more : (k e : ℕ) → 0 < behind k e → k < behind k e
behind_more k zero h = absurd (omega arith)
behind_more k (suc e) h = omega arith

string_none : (x : Bool) (b : ℕ) (bs : List ℕ) → behind (cond (x && false) 2 1) (enclosed 34 34 0 true (drop (cond (x && false) 2 1) (b ∷ 39 ∷ bs))) ≡ 0
string_none true b bs = refl
string_none false b bs = refl

character_go : (t : Bool) (b : ℕ) (bs : List ℕ) → is_prefix b ≡ t → 0 < behind (cond t 1 0) (enclosed 39 39 1 true (drop (cond t 1 0) (b ∷ bs))) → (string_len (b ∷ bs) ≡ 0) × AtMost (b ∷ bs) (cond t 1 0)
character_go false b bs e h =
    let x = eqb-true b 39 (opened (eqb b 39) _ (behind_zero 0 _ h)) in
    subst (λ y. (string_len (y ∷ bs) ≡ 0) × AtMost (y ∷ bs) 0) (sym x) (single_quote bs)
character_go true b [] e h = absurd (omega arith)
character_go true b (q ∷ bs) e h =
    let x = eqb-true q 39 (opened (eqb q 39) _ (behind_zero 1 _ h)) in
    subst (λ y. (string_len (b ∷ y ∷ bs) ≡ 0) × AtMost (b ∷ y ∷ bs) 1) (sym x) (rw e (string_none (eqb b 117) b bs), after_prefix b 39 bs e refl)

u8_quote : (bs : List ℕ) → AtMost (117 ∷ 56 ∷ 34 ∷ bs) 2
unfolding seconds
u8_quote bs = record { name = omega arith; number = refl; punctuator = omega arith }

string_go : (x t : Bool) (b : ℕ) (bs : List ℕ) → (eqb b 117 && eqb (slice_index bs 0) 56) ≡ x → is_prefix b ≡ t → 0 < behind (cond x 2 (cond t 1 0)) (enclosed 34 34 0 true (drop (cond x 2 (cond t 1 0)) (b ∷ bs))) → AtMost (b ∷ bs) (cond x 2 (cond t 1 0))
string_go true t b [] e f h = let z = (and_parts (eqb b 117) false e).1 in absurd (cc)
string_go true t b (c ∷ []) e f h = absurd (omega arith)
string_go true t b (c ∷ q ∷ bs) e f h =
    let z = and_parts (eqb b 117) (eqb c 56) e in
    let x = eqb-true b 117 z.0 in
    let y = eqb-true c 56 z.1 in
    let w = eqb-true q 34 (opened (eqb q 34) _ (behind_zero 2 _ h)) in
    rw (x, y, w) (u8_quote bs)
string_go false false b bs e f h =
    let x = eqb-true b 34 (opened (eqb b 34) _ (behind_zero 0 _ h)) in
    subst (λ y. AtMost (y ∷ bs) 0) (sym x) (double_quote bs)
string_go false true b [] e f h = absurd (omega arith)
string_go false true b (q ∷ bs) e f h =
    let x = eqb-true q 34 (opened (eqb q 34) _ (behind_zero 1 _ h)) in
    subst (λ y. AtMost (b ∷ y ∷ bs) 1) (sym x) (after_prefix b 34 bs f refl)

pub character_most : (bs : List ℕ) → 0 < character_len bs → (string_len bs ≤ character_len bs) × (name_len bs ≤ character_len bs) × (number_len bs ≤ character_len bs) × (punctuator_len bs ≤ character_len bs)
character_most [] h = absurd (omega arith)
character_most (b ∷ bs) h =
    let g = character_go (is_prefix b) b bs refl h in
    let k : cond (is_prefix b) 1 0 < character_len (b ∷ bs) = behind_more (cond (is_prefix b) 1 0) _ h in
    (omega (arith, g.0), omega (arith, g.1.name, k), omega (arith, g.1.number), omega (arith, g.1.punctuator))

pub string_most : (bs : List ℕ) → 0 < string_len bs → (name_len bs ≤ string_len bs) × (number_len bs ≤ string_len bs) × (punctuator_len bs ≤ string_len bs)
string_most [] h = absurd (omega arith)
string_most (b ∷ bs) h =
    let g = string_go (eqb b 117 && eqb (slice_index bs 0) 56) (is_prefix b) b bs refl refl h in
    let k : cond (eqb b 117 && eqb (slice_index bs 0) 56) 2 (cond (is_prefix b) 1 0) < string_len (b ∷ bs) = behind_more (cond (eqb b 117 && eqb (slice_index bs 0) 56) 2 (cond (is_prefix b) 1 0)) _ h in
    (omega (arith, g.name, k), omega (arith, g.number), omega (arith, g.punctuator))

pub name_most : (bs : List ℕ) → 0 < name_len bs → (number_len bs ≤ name_len bs) × (punctuator_len bs ≤ name_len bs)
name_most [] h = absurd (omega arith)
name_most (b ∷ bs) h =
    let l = opened (is_letter b) _ h in
    let n = letter_number b bs l in
    let p = word_punctuator b (slice_index bs 0) (slice_index bs 1) (slice_index bs 2) (letter_word b l) in
    (omega (arith, n), omega (arith, p))

dot_punctuator : (c : ℕ) (bs : List ℕ) → is_digit c ≡ true → punctuator_len (46 ∷ c ∷ bs) ≤ 1
unfolding seconds
dot_punctuator c bs h =
    let n : 46 ≡ c → ⊥ = λ e. both_ways (is_digit 46) refl (subst (λ x. is_digit x ≡ true) (sym e) h) in
    at_most_one _ (is_triple 46 c (slice_index bs 0)) _ (is_single 46) refl (and_left (eqb 46 c) _ (ne_eqb 46 c n)) refl

dot_number : (bs : List ℕ) → begins_digit bs ≡ true → punctuator_len (46 ∷ bs) ≤ 1
dot_number [] h = absurd (cc)
dot_number (c ∷ bs) h = dot_punctuator c bs h

pub number_most : (bs : List ℕ) → 0 < number_len bs → punctuator_len bs ≤ number_len bs
number_most [] h = absurd (omega arith)
number_most (a ∷ bs) h =
    let p : punctuator_len (a ∷ bs) ≤ 1 = elim (or_cases (is_digit a) (eqb a 46 && begins_digit bs) (opened (begins_number a bs) _ h)) [ inl d ↦ word_punctuator a (slice_index bs 0) (slice_index bs 1) (slice_index bs 2) (or_right (is_letter a) (is_digit a) d) | inr d ↦ (let z = and_parts (eqb a 46) (begins_digit bs) d in subst (λ y. punctuator_len (y ∷ bs) ≤ 1) (sym (eqb-true a 46 z.0)) (dot_number bs z.1)) ] in
    omega (arith, p)

pub record Within (c s n d p k : ℕ) : Type 0 where
  pub character : c ≤ k
  pub string : s ≤ k
  pub name : n ≤ k
  pub number : d ≤ k
  pub punctuator : p ≤ k

pub first_most : (c s n d p : ℕ) → (0 < c → (s ≤ c) × (n ≤ c) × (d ≤ c) × (p ≤ c)) → (0 < s → (n ≤ s) × (d ≤ s) × (p ≤ s)) → (0 < n → (d ≤ n) × (p ≤ n)) → (0 < d → p ≤ d) → Within c s n d p (first_kind c s n d p).1
first_most c s n d p f g h i =
    elim (cases_lt 0 c) [ inl a ↦ (let x = f a in let e : c ≡ (first_kind c s n d p).1 = rw (lt-ltb 0 c a) refl in subst (λ k. Within c s n d p k) e (record { character = omega arith; string = x.0; name = x.1; number = x.2; punctuator = x.3 })) | inr a ↦ elim (cases_lt 0 s) [ inl b ↦ (let x = g b in let e : s ≡ (first_kind c s n d p).1 = rw (le-ltb 0 c a, lt-ltb 0 s b) refl in subst (λ k. Within c s n d p k) e (record { character = omega arith; string = omega arith; name = x.0; number = x.1; punctuator = x.2 })) | inr b ↦ elim (cases_lt 0 n) [ inl u ↦ (let x = h u in let e : n ≡ (first_kind c s n d p).1 = rw (le-ltb 0 c a, le-ltb 0 s b, lt-ltb 0 n u) refl in subst (λ k. Within c s n d p k) e (record { character = omega arith; string = omega arith; name = omega arith; number = x.0; punctuator = x.1 })) | inr u ↦ elim (cases_lt 0 d) [ inl v ↦ (let x = i v in let e : d ≡ (first_kind c s n d p).1 = rw (le-ltb 0 c a, le-ltb 0 s b, le-ltb 0 n u, lt-ltb 0 d v) refl in subst (λ k. Within c s n d p k) e (record { character = omega arith; string = omega arith; name = omega arith; number = omega arith; punctuator = x })) | inr v ↦ elim (cases_lt 0 p) [ inl w ↦ (let e : p ≡ (first_kind c s n d p).1 = rw (le-ltb 0 c a, le-ltb 0 s b, le-ltb 0 n u, le-ltb 0 d v, lt-ltb 0 p w) refl in subst (λ k. Within c s n d p k) e (record { character = omega arith; string = omega arith; name = omega arith; number = omega arith; punctuator = omega arith })) | inr w ↦ (let e : 1 ≡ (first_kind c s n d p).1 = rw (le-ltb 0 c a, le-ltb 0 s b, le-ltb 0 n u, le-ltb 0 d v, le-ltb 0 p w) refl in subst (λ k. Within c s n d p k) e (record { character = omega arith; string = omega arith; name = omega arith; number = omega arith; punctuator = omega arith })) ] ] ] ] ]

pub plain_most : (bs : List ℕ) → Within (character_len bs) (string_len bs) (name_len bs) (number_len bs) (punctuator_len bs) (plain_token bs).1
plain_most bs =
    first_most (character_len bs) (string_len bs) (name_len bs) (number_len bs) (punctuator_len bs) (character_most bs) (string_most bs) (name_most bs) (number_most bs)
