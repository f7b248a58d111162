-- A front that is found is the longest of its kind.
use Rattle.std.proofs.Common.{◌≡◌, ℕ, zero, suc, ◌≤◌, ◌<◌, eqb, ltb, ◌||◌, ◌&&◌, Bool, true, false, not, cond, List, [], ◌∷◌, length, take, refl, subst, arith, Option, None, Some, inl, inr}
use Rattle.std.proofs.lemmas.Bool.{ltb-true, ltb-false, cases_Bool, and_right}
use Rattle.std.proofs.lemmas.List.{length-take-le}
use Rattle.phases.specs.inside.Lexical.{is_letter, is_word, word_len, name_len, goes_on, begins_digit, begins_number, is_digit, number_more, number_len, one_more, closes, escapes_next, to_close, closed_over, enclosed, is_single, is_pair, is_triple, is_quadruple, punctuator_len}
use Rattle.phases.specs.inside.Grammar.{all_word, is_identifier, continues, is_number, is_empty, closes_last, is_enclosed, is_punctuator}

and_step : (t u x : Bool) (k m : ℕ) → (t ≡ false → u ≡ false) → cond t (suc k) 0 < suc m → (k < m → x ≡ false) → (u && x) ≡ false
and_step true u x k m f h g = and_right u x (g (omega arith))
and_step false u x k m f h g = rw (f refl) refl

same : (t : Bool) → t ≡ false → t ≡ false
same t h = h

word_longest : (bs : List ℕ) (m : ℕ) → word_len bs < m → m ≤ length bs → all_word (take m bs) ≡ false
word_longest [] m h l = absurd (omega arith)
word_longest (b ∷ bs) zero h l = absurd (omega arith)
word_longest (b ∷ bs) (suc m) h l = and_step (is_word b) (is_word b) (all_word (take m bs)) (word_len bs) m (same (is_word b)) h (λ k. word_longest bs m k (omega arith))

pub name_longest : (bs : List ℕ) (m : ℕ) → name_len bs < m → m ≤ length bs → is_identifier (take m bs) ≡ false
name_longest [] m h l = absurd (omega arith)
name_longest (b ∷ bs) zero h l = absurd (omega arith)
name_longest (b ∷ bs) (suc m) h l = and_step (is_letter b) (is_letter b) (all_word (take m bs)) (word_len bs) m (same (is_letter b)) h (λ k. word_longest bs m k (omega arith))

more_longest : (last : ℕ) (bs : List ℕ) (m : ℕ) → number_more last bs < m → m ≤ length bs → continues last (take m bs) ≡ false
more_longest last [] m h l = absurd (omega arith)
more_longest last (b ∷ bs) zero h l = absurd (omega arith)
more_longest last (b ∷ bs) (suc m) h l = and_step (goes_on last b) (goes_on last b) (continues b (take m bs)) (number_more b bs) m (same (goes_on last b)) h (λ k. more_longest b bs m k (omega arith))

digit_or : (d e x y : Bool) → (x ≡ false → y ≡ false) → (d || (e && x)) ≡ false → (d || (e && y)) ≡ false
digit_or true e x y f h = absurd (cc)
digit_or false false x y f h = refl
digit_or false true x y f h = f h

digit_front : (m : ℕ) (bs : List ℕ) → begins_digit bs ≡ false → begins_digit (take m bs) ≡ false
digit_front zero bs h = refl
digit_front (suc m) [] h = refl
digit_front (suc m) (b ∷ bs) h = h

pub number_longest : (bs : List ℕ) (m : ℕ) → number_len bs < m → m ≤ length bs → is_number (take m bs) ≡ false
number_longest [] m h l = absurd (omega arith)
number_longest (b ∷ bs) zero h l = absurd (omega arith)
number_longest (b ∷ bs) (suc m) h l =
    and_step (begins_number b bs) (begins_number b (take m bs)) (continues b (take m bs)) (number_more b bs) m (digit_or (is_digit b) (eqb b 46) (begins_digit bs) (begins_digit (take m bs)) (digit_front m bs)) h (λ k. more_longest b bs m k (omega arith))

-- the closing byte lies before this length, or there is none
abbrev Past : Option ℕ → ℕ → Type 0
Past None m = Unit {0}
Past (Some n) m = n < m

past_one : (o : Option ℕ) (m : ℕ) → Past (one_more o) (suc m) → Past o m
past_one None m h = tt
past_one (Some n) m h = omega arith

close_step : (nl cl e x : Bool) (o : Option ℕ) (m : ℕ) → Past (cond nl None (cond cl (Some 1) (one_more o))) (suc m) → (0 < m → e ≡ false) → (Past o m → x ≡ false) → (not nl && cond cl e x) ≡ false
close_step true cl e x o m h f g = refl
close_step false true e x o m h f g = f (omega arith)
close_step false false e x o m h f g = g (past_one o m h)

not_empty : (m : ℕ) (bs : List ℕ) → m ≤ length bs → 0 < m → is_empty (take m bs) ≡ false
not_empty zero bs l h = absurd (omega arith)
not_empty (suc m) [] l h = absurd (omega arith)
not_empty (suc m) (b ∷ bs) l h = refl

close_longest : (close : ℕ) (escapes escaped : Bool) (bs : List ℕ) (m : ℕ) → Past (to_close close escapes escaped bs) m → m ≤ length bs → closes_last close escapes escaped (take m bs) ≡ false
close_longest close escapes escaped bs zero h l = refl
close_longest close escapes escaped [] (suc m) h l = refl
close_longest close escapes escaped (b ∷ bs) (suc m) h l =
    close_step (eqb b 10) (closes close escaped b) (is_empty (take m bs)) (closes_last close escapes (escapes_next escapes escaped b) (take m bs)) (to_close close escapes (escapes_next escapes escaped b) bs) m h (not_empty m bs (omega arith)) (λ k. close_longest close escapes (escapes_next escapes escaped b) bs m k (omega arith))

past_least : (least : ℕ) (o : Option ℕ) (m : ℕ) → closed_over least o < suc m → least < m → Past o m
past_least least None m h k = tt
past_least least (Some n) m h k =
    elim (cases_Bool (ltb least n)) [ inl e ↦ (let g : suc n < suc m = subst (λ t. cond t (suc n) 0 < suc m) e h in omega arith) | inr e ↦ (let g = ltb-false least n e in omega arith) ]

enclosed_step : (t c : Bool) (least : ℕ) (o : Option ℕ) (m : ℕ) → cond t (closed_over least o) 0 < suc m → (Past o m → c ≡ false) → (t && (ltb least m && c)) ≡ false
enclosed_step false c least o m h f = refl
enclosed_step true c least o m h f =
    elim (cases_Bool (ltb least m)) [ inl e ↦ and_right (ltb least m) c (f (past_least least o m h (ltb-true least m e))) | inr e ↦ rw e refl ]

pub enclosed_longest : (first close least : ℕ) (escapes : Bool) (bs : List ℕ) (m : ℕ) → (0 < m → enclosed first close least escapes bs < m) → m ≤ length bs → is_enclosed first close least escapes (take m bs) ≡ false
enclosed_longest first close least escapes bs zero h l = refl
enclosed_longest first close least escapes [] (suc m) h l = refl
enclosed_longest first close least escapes (b ∷ bs) (suc m) h l =
    let e : length (take m bs) ≡ m = length-take-le m bs (omega arith) in
    rw e (enclosed_step (eqb b first) (closes_last close escapes false (take m bs)) least (to_close close escapes false bs) m (h (omega arith)) (λ k. close_longest close escapes false bs m k (omega arith)))

no_single : (q t p s : Bool) → cond q 4 (cond t 3 (cond p 2 (cond s 1 0))) < 1 → s ≡ false
no_single true t p s h = absurd (omega arith)
no_single false true p s h = absurd (omega arith)
no_single false false true s h = absurd (omega arith)
no_single false false false true h = absurd (omega arith)
no_single false false false false h = refl

no_pair : (q t p s : Bool) → cond q 4 (cond t 3 (cond p 2 (cond s 1 0))) < 2 → p ≡ false
no_pair true t p s h = absurd (omega arith)
no_pair false true p s h = absurd (omega arith)
no_pair false false true s h = absurd (omega arith)
no_pair false false false s h = refl

no_triple : (q t p s : Bool) → cond q 4 (cond t 3 (cond p 2 (cond s 1 0))) < 3 → t ≡ false
no_triple true t p s h = absurd (omega arith)
no_triple false true p s h = absurd (omega arith)
no_triple false false p s h = refl

no_quadruple : (q t p s : Bool) → cond q 4 (cond t 3 (cond p 2 (cond s 1 0))) < 4 → q ≡ false
no_quadruple true t p s h = absurd (omega arith)
no_quadruple false t p s h = refl

pub punctuator_longest : (bs : List ℕ) (m : ℕ) → punctuator_len bs < m → m ≤ length bs → is_punctuator (take m bs) ≡ false
punctuator_longest bs zero h l = refl
punctuator_longest [] (suc m) h l = absurd (omega arith)
punctuator_longest (a ∷ bs) (suc zero) h l = no_single _ _ _ (is_single a) h
punctuator_longest (a ∷ []) (suc (suc m)) h l = absurd (omega arith)
punctuator_longest (a ∷ b ∷ bs) (suc (suc zero)) h l = no_pair _ _ (is_pair a b) _ h
punctuator_longest (a ∷ b ∷ []) (suc (suc (suc m))) h l = absurd (omega arith)
punctuator_longest (a ∷ b ∷ c ∷ bs) (suc (suc (suc zero))) h l = no_triple _ (is_triple a b c) _ _ h
punctuator_longest (a ∷ b ∷ c ∷ []) (suc (suc (suc (suc m)))) h l = absurd (omega arith)
punctuator_longest (a ∷ b ∷ c ∷ d ∷ bs) (suc (suc (suc (suc zero)))) h l = no_quadruple (is_quadruple a b c d) _ _ _ h
punctuator_longest (a ∷ b ∷ c ∷ d ∷ []) (suc (suc (suc (suc (suc m))))) h l = absurd (omega arith)
punctuator_longest (a ∷ b ∷ c ∷ d ∷ e ∷ bs) (suc (suc (suc (suc (suc m))))) h l = refl
