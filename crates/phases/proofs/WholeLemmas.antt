-- The front that is found is a whole token of its kind.
use Rattle.std.proofs.Common.{◌≡◌, ℕ, zero, suc, slice_index, ◌+◌, ◌≤◌, ◌<◌, eqb, ltb, leb, ◌||◌, ◌&&◌, Bool, true, false, cond, List, [], ◌∷◌, length, take, drop, refl, sym, subst, arith, Option, None, Some, inl, inr}
use Rattle.std.proofs.lemmas.Bool.{cases_Bool, cases_lt, and_parts, and_from, and_right, or_cases, or_left, or_right, lt-ltb, le-ltb, leb-true, both_ways}
use Rattle.std.proofs.lemmas.List.{length-take-le}
use Rattle.phases.specs.declared.token.Kind.{Kind}
use Rattle.phases.specs.declared.token.Kind.TheVariants.{Identifier, Number, CharacterConstant, StringLiteral, HeaderName, Punctuator, Other}
use Rattle.phases.specs.declared.token.Place.{Place}
use Rattle.phases.specs.declared.token.Place.TheVariants.{Start, AfterHash, AfterInclude, Elsewhere}
use Rattle.phases.specs.inside.Lexical.{is_digit, is_letter, is_word, word_len, name_len, goes_on, number_more, begins_digit, begins_number, number_len, one_more, closes, escapes_next, to_close, closed_over, enclosed, behind, is_prefix, character_len, string_len, header_len, is_single, is_pair, is_triple, is_quadruple, punctuator_len, first_kind, plain_token, header_or}
use Rattle.phases.specs.inside.Grammar.{all_word, is_identifier, continues, is_number, closes_last, is_enclosed, is_character, is_string, is_header, is_punctuator, is_of, IsWhole, IsWholeFront}
use Rattle.phases.proofs.PunctuatorLemmas.{no_zero_second}

-- there are `n` characters, and they are a token by this test
pub record Good (test : List ℕ → Bool) (bs : List ℕ) (n : ℕ) : Type 0 where
  pub room : n ≤ length bs
  pub holds : test (take n bs) ≡ true

word_good : (bs : List ℕ) → Good all_word bs (word_len bs)
word_good [] = record { room = omega arith; holds = refl }
word_good (b ∷ bs) =
    let i = word_good bs in
    elim (cases_Bool (is_word b)) [ inl t ↦ subst (λ k. Good all_word (b ∷ bs) (cond k (suc (word_len bs)) 0)) (sym t) (record { room = omega (arith, i.room); holds = and_from (is_word b) (all_word (take (word_len bs) bs)) t i.holds }) | inr t ↦ subst (λ k. Good all_word (b ∷ bs) (cond k (suc (word_len bs)) 0)) (sym t) (record { room = omega arith; holds = refl }) ]

pub name_good : (bs : List ℕ) → 0 < name_len bs → Good is_identifier bs (name_len bs)
name_good [] h = absurd (omega arith)
name_good (b ∷ bs) h =
    let i = word_good bs in
    elim (cases_Bool (is_letter b)) [ inl t ↦ subst (λ k. Good is_identifier (b ∷ bs) (cond k (suc (word_len bs)) 0)) (sym t) (record { room = omega (arith, i.room); holds = and_from (is_letter b) (all_word (take (word_len bs) bs)) t i.holds }) | inr t ↦ absurd (let g : 0 < 0 = subst (λ k. 0 < cond k (suc (word_len bs)) 0) t h in omega arith) ]

more_good : (last : ℕ) (bs : List ℕ) → Good (continues last) bs (number_more last bs)
more_good last [] = record { room = omega arith; holds = refl }
more_good last (b ∷ bs) =
    let i = more_good b bs in
    elim (cases_Bool (goes_on last b)) [ inl t ↦ subst (λ k. Good (continues last) (b ∷ bs) (cond k (suc (number_more b bs)) 0)) (sym t) (record { room = omega (arith, i.room); holds = and_from (goes_on last b) (continues b (take (number_more b bs) bs)) t i.holds }) | inr t ↦ subst (λ k. Good (continues last) (b ∷ bs) (cond k (suc (number_more b bs)) 0)) (sym t) (record { room = omega arith; holds = refl }) ]

digit_word : (b : ℕ) → is_digit b ≡ true → is_word b ≡ true
digit_word b h = or_right (is_letter b) (is_digit b) h

digit_goes : (last b : ℕ) → is_digit b ≡ true → goes_on last b ≡ true
digit_goes last b h = rw (digit_word b h) refl

digit_kept : (last : ℕ) (bs : List ℕ) → begins_digit bs ≡ true → begins_digit (take (number_more last bs) bs) ≡ true
digit_kept last [] h = h
digit_kept last (b ∷ bs) h = subst (λ k. begins_digit (take (cond k (suc (number_more b bs)) 0) (b ∷ bs)) ≡ true) (sym (digit_goes last b h)) h

number_kept : (a : ℕ) (bs : List ℕ) → begins_number a bs ≡ true → begins_number a (take (number_more a bs) bs) ≡ true
number_kept a bs h =
    elim (or_cases (is_digit a) (eqb a 46 && begins_digit bs) h) [ inl t ↦ or_left (is_digit a) _ t | inr t ↦ (let p = and_parts (eqb a 46) (begins_digit bs) t in or_right (is_digit a) _ (and_from (eqb a 46) _ p.0 (digit_kept a bs p.1))) ]

pub number_good : (bs : List ℕ) → 0 < number_len bs → Good is_number bs (number_len bs)
number_good [] h = absurd (omega arith)
number_good (a ∷ bs) h =
    let i = more_good a bs in
    elim (cases_Bool (begins_number a bs)) [ inl t ↦ subst (λ k. Good is_number (a ∷ bs) (cond k (suc (number_more a bs)) 0)) (sym t) (record { room = omega (arith, i.room); holds = and_from (begins_number a (take (number_more a bs) bs)) (continues a (take (number_more a bs) bs)) (number_kept a bs t) i.holds }) | inr t ↦ absurd (let g : 0 < 0 = subst (λ k. 0 < cond k (suc (number_more a bs)) 0) t h in omega arith) ]

-- through the closing byte
record Closes (close : ℕ) (escapes escaped : Bool) (bs : List ℕ) (n : ℕ) : Type 0 where
  pub room : n ≤ length bs
  pub holds : closes_last close escapes escaped (take n bs) ≡ true

abbrev IfCloses : ℕ → Bool → Bool → List ℕ → Option ℕ → Type 0
IfCloses close escapes escaped bs None = Unit {0}
IfCloses close escapes escaped bs (Some n) = Closes close escapes escaped bs n

close_more : (close : ℕ) (escapes escaped : Bool) (b : ℕ) (bs : List ℕ) (o : Option ℕ) → eqb b 10 ≡ false → closes close escaped b ≡ false → IfCloses close escapes (escapes_next escapes escaped b) bs o → IfCloses close escapes escaped (b ∷ bs) (one_more o)
close_more close escapes escaped b bs None l c i = tt
close_more close escapes escaped b bs (Some n) l c i = record { room = omega (arith, i.room); holds = rw (l, c) i.holds }

close_good : (close : ℕ) (escapes escaped : Bool) (bs : List ℕ) → IfCloses close escapes escaped bs (to_close close escapes escaped bs)
close_good close escapes escaped [] = tt
close_good close escapes escaped (b ∷ bs) =
    let o = to_close close escapes (escapes_next escapes escaped b) bs in
    let i = close_good close escapes (escapes_next escapes escaped b) bs in
    elim (cases_Bool (eqb b 10)) [ inl l ↦ subst (λ k. IfCloses close escapes escaped (b ∷ bs) (cond k None (cond (closes close escaped b) (Some 1) (one_more o)))) (sym l) tt | inr l ↦ subst (λ k. IfCloses close escapes escaped (b ∷ bs) (cond k None (cond (closes close escaped b) (Some 1) (one_more o)))) (sym l) (elim (cases_Bool (closes close escaped b)) [ inl c ↦ subst (λ k. IfCloses close escapes escaped (b ∷ bs) (cond k (Some 1) (one_more o))) (sym c) (record { room = omega arith; holds = rw (l, c) refl }) | inr c ↦ subst (λ k. IfCloses close escapes escaped (b ∷ bs) (cond k (Some 1) (one_more o))) (sym c) (close_more close escapes escaped b bs o l c i) ]) ]

over_good : (first close least : ℕ) (escapes : Bool) (b : ℕ) (bs : List ℕ) (o : Option ℕ) → eqb b first ≡ true → IfCloses close escapes false bs o → 0 < closed_over least o → Good (is_enclosed first close least escapes) (b ∷ bs) (closed_over least o)
over_good first close least escapes b bs None t i h = absurd (omega arith)
over_good first close least escapes b bs (Some n) t i h =
    elim (cases_Bool (ltb least n)) [ inl e ↦ (let m : length (take n bs) ≡ n = length-take-le n bs i.room in let g : is_enclosed first close least escapes (b ∷ take n bs) ≡ true = rw (t, m, e) i.holds in subst (λ k. Good (is_enclosed first close least escapes) (b ∷ bs) (cond k (suc n) 0)) (sym e) (record { room = omega (arith, i.room); holds = g })) | inr e ↦ absurd (let g : 0 < 0 = subst (λ k. 0 < cond k (suc n) 0) e h in omega arith) ]

enclosed_good : (first close least : ℕ) (escapes : Bool) (bs : List ℕ) → 0 < enclosed first close least escapes bs → Good (is_enclosed first close least escapes) bs (enclosed first close least escapes bs)
enclosed_good first close least escapes [] h = absurd (omega arith)
enclosed_good first close least escapes (b ∷ bs) h =
    let o = to_close close escapes false bs in
    elim (cases_Bool (eqb b first)) [ inl t ↦ subst (λ k. Good (is_enclosed first close least escapes) (b ∷ bs) (cond k (closed_over least o) 0)) (sym t) (over_good first close least escapes b bs o t (close_good close escapes false bs) (subst (λ k. 0 < cond k (closed_over least o) 0) t h)) | inr t ↦ absurd (let g : 0 < 0 = subst (λ k. 0 < cond k (closed_over least o) 0) t h in omega arith) ]

-- a literal after its prefix
behind_good : (k e : ℕ) (test : List ℕ → Bool) (bs : List ℕ) (whole : List ℕ → Bool) → 0 < behind k e → (0 < e → Good test (drop k bs) e) → ((m : ℕ) → 0 < m → m ≤ length (drop k bs) → test (take m (drop k bs)) ≡ true → Good whole bs (k + m)) → Good whole bs (behind k e)
behind_good k zero test bs whole h f g = absurd (omega arith)
behind_good k (suc e) test bs whole h f g =
    let i = f (omega arith) in
    g (suc e) (omega arith) i.room i.holds

one_more_byte : (m : ℕ) → 1 + m ≡ suc m
one_more_byte m = omega arith

character_kept : (t : Bool) (b m : ℕ) (cs : List ℕ) → is_prefix b ≡ t → 0 < m → m ≤ length (drop (cond t 1 0) (b ∷ cs)) → is_enclosed 39 39 1 true (take m (drop (cond t 1 0) (b ∷ cs))) ≡ true → Good is_character (b ∷ cs) (cond t 1 0 + m)
character_kept true b m cs e p l h =
    subst (λ k. Good is_character (b ∷ cs) k) (sym (one_more_byte m)) (record { room = omega (arith, l); holds = rw e h })
character_kept false b zero cs e p l h = absurd (omega arith)
character_kept false b (suc m) cs e p l h =
    let z : 0 + suc m ≡ suc m = omega arith in
    subst (λ k. Good is_character (b ∷ cs) k) (sym z) (record { room = omega (arith, l); holds = rw e h })

pub character_good : (bs : List ℕ) → 0 < character_len bs → Good is_character bs (character_len bs)
character_good [] h = absurd (omega arith)
character_good (b ∷ cs) h =
    behind_good (cond (is_prefix b) 1 0) (enclosed 39 39 1 true (drop (cond (is_prefix b) 1 0) (b ∷ cs))) (is_enclosed 39 39 1 true) (b ∷ cs) is_character h (enclosed_good 39 39 1 true (drop (cond (is_prefix b) 1 0) (b ∷ cs))) (λ m p l g. character_kept (is_prefix b) b m cs refl p l g)

-- the second byte, where it is not 8
not_eight : (u : Bool) (m : ℕ) (cs : List ℕ) → (u && eqb (slice_index cs 0) 56) ≡ false → (u && eqb (slice_index (take m cs) 0) 56) ≡ false
not_eight u zero cs h = and_right u false refl
not_eight u (suc m) [] h = and_right u false refl
not_eight u (suc m) (c ∷ cs) h = h

string_kept : (x t : Bool) (b m : ℕ) (cs : List ℕ) → (eqb b 117 && eqb (slice_index cs 0) 56) ≡ x → is_prefix b ≡ t → 0 < m → m ≤ length (drop (cond x 2 (cond t 1 0)) (b ∷ cs)) → is_enclosed 34 34 0 true (take m (drop (cond x 2 (cond t 1 0)) (b ∷ cs))) ≡ true → Good is_string (b ∷ cs) (cond x 2 (cond t 1 0) + m)
string_kept true t b m [] e f p l h = absurd (omega arith)
string_kept true t b m (c ∷ cs) e f p l h =
    let z : 2 + m ≡ suc (suc m) = omega arith in
    subst (λ k. Good is_string (b ∷ c ∷ cs) k) (sym z) (record { room = omega (arith, l); holds = rw e h })
string_kept false true b m cs e f p l h =
    subst (λ k. Good is_string (b ∷ cs) k) (sym (one_more_byte m)) (record { room = omega (arith, l); holds = rw (not_eight (eqb b 117) m cs e, f) h })
string_kept false false b zero cs e f p l h = absurd (omega arith)
string_kept false false b (suc m) cs e f p l h =
    let z : 0 + suc m ≡ suc m = omega arith in
    subst (λ k. Good is_string (b ∷ cs) k) (sym z) (record { room = omega (arith, l); holds = rw (not_eight (eqb b 117) m cs e, f) h })

pub string_good : (bs : List ℕ) → 0 < string_len bs → Good is_string bs (string_len bs)
string_good [] h = absurd (omega arith)
string_good (b ∷ cs) h =
    let x = eqb b 117 && eqb (slice_index cs 0) 56 in
    let k = cond x 2 (cond (is_prefix b) 1 0) in
    behind_good k (enclosed 34 34 0 true (drop k (b ∷ cs))) (is_enclosed 34 34 0 true) (b ∷ cs) is_string h (enclosed_good 34 34 0 true (drop k (b ∷ cs))) (λ m p l g. string_kept x (is_prefix b) b m cs refl refl p l g)

either_good : (t : Bool) (m n : ℕ) (bs : List ℕ) → (0 < m → Good (is_enclosed 60 62 1 false) bs m) → (0 < n → Good (is_enclosed 34 34 1 false) bs n) → 0 < cond t m n → Good is_header bs (cond t m n)
either_good true m n bs f g h = let i = f h in record { room = i.room; holds = or_left (is_enclosed 60 62 1 false (take m bs)) (is_enclosed 34 34 1 false (take m bs)) i.holds }
either_good false m n bs f g h = let i = g h in record { room = i.room; holds = or_right (is_enclosed 60 62 1 false (take n bs)) (is_enclosed 34 34 1 false (take n bs)) i.holds }

pub header_good : (bs : List ℕ) → 0 < header_len bs → Good is_header bs (header_len bs)
header_good bs h = either_good (eqb (slice_index bs 0) 60) (enclosed 60 62 1 false bs) (enclosed 34 34 1 false bs) bs (enclosed_good 60 62 1 false bs) (enclosed_good 34 34 1 false bs) h

-- the punctuator of this length, where the texts are long enough
marks : (q t p s : Bool) (bs : List ℕ) → (q ≡ true → Good is_punctuator bs 4) → (t ≡ true → Good is_punctuator bs 3) → (p ≡ true → Good is_punctuator bs 2) → (s ≡ true → Good is_punctuator bs 1) → 0 < cond q 4 (cond t 3 (cond p 2 (cond s 1 0))) → Good is_punctuator bs (cond q 4 (cond t 3 (cond p 2 (cond s 1 0))))
marks true t p s bs f g h i z = f refl
marks false true p s bs f g h i z = g refl
marks false false true s bs f g h i z = h refl
marks false false false true bs f g h i z = i refl
marks false false false false bs f g h i z = absurd (omega arith)

no_third : (a b : ℕ) → is_triple a b 0 ≡ false
no_third a b = rw (and_right (eqb a 46) false refl, and_right (eqb a 60 || eqb a 62) false refl) (and_right (eqb a b) false refl)

no_fourth : (a b c : ℕ) → is_quadruple a b c 0 ≡ false
no_fourth a b c = rw (and_right (eqb c 37) false refl) (and_right (eqb a 37 && eqb b 58) false refl)

not_both : (t : Bool) (P : Type 0) → t ≡ false → t ≡ true → P
not_both t P f h = absurd (both_ways t f h)

pub punctuator_good : (bs : List ℕ) → 0 < punctuator_len bs → Good is_punctuator bs (punctuator_len bs)
punctuator_good [] h = marks (is_quadruple 0 0 0 0) (is_triple 0 0 0) (is_pair 0 0) (is_single 0) [] (not_both _ _ refl) (not_both _ _ refl) (not_both _ _ (no_zero_second 0)) (not_both _ _ refl) h
punctuator_good (a ∷ []) h = marks (is_quadruple a 0 0 0) (is_triple a 0 0) (is_pair a 0) (is_single a) (a ∷ []) (not_both _ _ (no_fourth a 0 0)) (not_both _ _ (no_third a 0)) (not_both _ _ (no_zero_second a)) (λ e. record { room = omega arith; holds = e }) h
punctuator_good (a ∷ b ∷ []) h = marks (is_quadruple a b 0 0) (is_triple a b 0) (is_pair a b) (is_single a) (a ∷ b ∷ []) (not_both _ _ (no_fourth a b 0)) (not_both _ _ (no_third a b)) (λ e. record { room = omega arith; holds = e }) (λ e. record { room = omega arith; holds = e }) h
punctuator_good (a ∷ b ∷ c ∷ []) h = marks (is_quadruple a b c 0) (is_triple a b c) (is_pair a b) (is_single a) (a ∷ b ∷ c ∷ []) (not_both _ _ (no_fourth a b c)) (λ e. record { room = omega arith; holds = e }) (λ e. record { room = omega arith; holds = e }) (λ e. record { room = omega arith; holds = e }) h
punctuator_good (a ∷ b ∷ c ∷ d ∷ bs) h = marks (is_quadruple a b c d) (is_triple a b c) (is_pair a b) (is_single a) (a ∷ b ∷ c ∷ d ∷ bs) (λ e. record { room = omega arith; holds = e }) (λ e. record { room = omega arith; holds = e }) (λ e. record { room = omega arith; holds = e }) (λ e. record { room = omega arith; holds = e }) h

other_good : (bs : List ℕ) → 0 < length bs → IsWhole (Other, 1) bs
other_good [] h = absurd (omega arith)
other_good (b ∷ bs) h = record { some = omega arith; room = omega arith; token = refl }

whole_of : (k : Kind) (n : ℕ) (bs : List ℕ) → 0 < n → Good (is_of k) bs n → IsWhole (k, n) bs
whole_of k n bs h g = record { some = h; room = g.room; token = g.holds }

first_whole : (c s n d p : ℕ) (bs : List ℕ) → 0 < length bs → (0 < c → Good is_character bs c) → (0 < s → Good is_string bs s) → (0 < n → Good is_identifier bs n) → (0 < d → Good is_number bs d) → (0 < p → Good is_punctuator bs p) → IsWhole (first_kind c s n d p) bs
first_whole c s n d p bs l f g h i j =
    elim (cases_lt 0 c) [ inl a ↦ (let e : (CharacterConstant, c) ≡ first_kind c s n d p = rw (lt-ltb 0 c a) refl in subst (λ k. IsWhole k bs) e (whole_of CharacterConstant c bs a (f a))) | inr a ↦ elim (cases_lt 0 s) [ inl b ↦ (let e : (StringLiteral, s) ≡ first_kind c s n d p = rw (le-ltb 0 c a, lt-ltb 0 s b) refl in subst (λ k. IsWhole k bs) e (whole_of StringLiteral s bs b (g b))) | inr b ↦ elim (cases_lt 0 n) [ inl u ↦ (let e : (Identifier, n) ≡ first_kind c s n d p = rw (le-ltb 0 c a, le-ltb 0 s b, lt-ltb 0 n u) refl in subst (λ k. IsWhole k bs) e (whole_of Identifier n bs u (h u))) | inr u ↦ elim (cases_lt 0 d) [ inl v ↦ (let e : (Number, d) ≡ first_kind c s n d p = rw (le-ltb 0 c a, le-ltb 0 s b, le-ltb 0 n u, lt-ltb 0 d v) refl in subst (λ k. IsWhole k bs) e (whole_of Number d bs v (i v))) | inr v ↦ elim (cases_lt 0 p) [ inl w ↦ (let e : (Punctuator, p) ≡ first_kind c s n d p = rw (le-ltb 0 c a, le-ltb 0 s b, le-ltb 0 n u, le-ltb 0 d v, lt-ltb 0 p w) refl in subst (λ k. IsWhole k bs) e (whole_of Punctuator p bs w (j w))) | inr w ↦ (let e : (Other, 1) ≡ first_kind c s n d p = rw (le-ltb 0 c a, le-ltb 0 s b, le-ltb 0 n u, le-ltb 0 d v, le-ltb 0 p w) refl in subst (λ k. IsWhole k bs) e (other_good bs l)) ] ] ] ] ]

plain_whole : (bs : List ℕ) → 0 < length bs → IsWhole (plain_token bs) bs
plain_whole bs l = first_whole (character_len bs) (string_len bs) (name_len bs) (number_len bs) (punctuator_len bs) bs l (character_good bs) (string_good bs) (name_good bs) (number_good bs) (punctuator_good bs)

header_whole : (n : ℕ) (t : Kind × ℕ) (bs : List ℕ) → IsWhole t bs → (0 < n → Good is_header bs n) → IsWhole (header_or n t) bs
header_whole n t bs w f =
    elim (cases_Bool (leb t.1 n)) [ inl e ↦ (let x : (HeaderName, n) ≡ header_or n t = rw e refl in let y = leb-true t.1 n e in let z : 0 < n = omega (arith, w.some) in subst (λ k. IsWhole k bs) x (whole_of HeaderName n bs z (f z))) | inr e ↦ (let x : t ≡ header_or n t = rw e refl in subst (λ k. IsWhole k bs) x w) ]

pub front_whole : (place : Place) (bs : List ℕ) → IsWholeFront place bs
front_whole Start bs l = plain_whole bs l
front_whole AfterHash bs l = plain_whole bs l
front_whole Elsewhere bs l = plain_whole bs l
front_whole AfterInclude bs l = header_whole (header_len bs) (plain_token bs) bs (plain_whole bs l) (header_good bs)
