-- Laws of runs of plain bytes.
use Rattle.std.proofs.Common.{◌<◌, ◌≡◌, ℕ, zero, suc, ◌+◌, ◌-◌, ◌≤◌, eqb, ◌&&◌, Bool, true, false, not, cond, List, [], ◌∷◌, ◌++◌, length, take, drop, map, refl, sym, ap, ◌∙◌, subst, arith, inl, inr, slice_index, Option, None, Some}
use Rattle.std.proofs.lemmas.Bool.{cases_Bool, and_parts, and_from, or_cases, eqb-true, both_ways, ne_eqb, not-true, and_right}
use Rattle.std.proofs.lemmas.List.{length-take, take-append-drop, map-append, length-append, length-take-le, length-drop, drop-drop, take_all, length-map}
use Rattle.phases.specs.Text.{Char, logical, bytes_of}
use Rattle.phases.specs.inside.Lexical.{is_word, is_white, word_len, goes_on, number_more, one_more, escapes_next, to_close}
use Rattle.phases.specs.inside.Pieces.{also, line_len, comment_len}
use Rattle.phases.specs.inside.Along.{longer, plus}
use Rattle.phases.specs.inside.Plain.{is_plain}
use Rattle.phases.specs.inside.Runs.{is_sure, is_ordinary, ordinary_len, all_ordinary, white_len, all_white, IsSureStep, IsRun, IsWhiteRun}
use Rattle.phases.specs.declared.cursor.Cursor.{Cursor}
use Rattle.phases.specs.declared.cursor.Step.{Step}
use Rattle.phases.specs.declared.cursor.Span.{Span}
use Rattle.phases.specs.inside.Reading.{text_at, bytes_at, char_of, Reads, IsStep, Spans}
use Rattle.phases.proofs.TextLemmas.{plain_first, plain_no_line, plain_no_escape, line_first}
use Rattle.phases.proofs.DominanceLemmas.{not_word}

-- the characters of plain bytes on one line
abbrev chars : ℕ → List ℕ → List Char
chars l bs = map (λ b. record { byte = b; line = l }) bs

chars_bytes : (l : ℕ) (bs : List ℕ) → bytes_of (chars l bs) ≡ bs
chars_bytes l [] = refl
chars_bytes l (b ∷ bs) = ap (λ t. b ∷ t) (chars_bytes l bs)

abbrev pub all_plain : List ℕ → Bool
all_plain [] = true
all_plain (b ∷ bs) = is_plain b && all_plain bs

plain_run : (l : ℕ) (f q : List ℕ) → all_plain f ≡ true → logical l (f ++ q) ≡ chars l f ++ logical l q
plain_run l [] q h = refl
plain_run l (b ∷ f) q h =
    let p = and_parts (is_plain b) (all_plain f) h in
    plain_first l b (f ++ q) p.0 ∙ ap (λ t. record { byte = b; line = l } ∷ t) (plain_run l f q p.1)

run_reads : (a b : Cursor) (f : List ℕ) → all_plain f ≡ true → a.rest.now ≡ f ++ b.rest.now → b.line ≡ a.line → Reads a (chars a.line f) b
run_reads a b f p e l =
    let n : length (chars a.line f) ≡ length f = length-map f (λ c. record { byte = c; line = a.line }) in
    let t : text_at a ≡ chars a.line f ++ text_at b = ap (logical a.line) e ∙ plain_run a.line f b.rest.now p ∙ rw l refl in
    record { text_is = t; least = omega (arith, n, ap length e, length-append f b.rest.now); plain = λ h. rw (chars_bytes a.line f) e }

pub run_spans : (a b : Cursor) (f : List ℕ) (n : ℕ) → all_plain f ≡ true → a.rest.now ≡ f ++ b.rest.now → b.line ≡ a.line → length f ≡ n → Spans a n b
run_spans a b f n p e l m =
    record { front = chars a.line f; count = length-map f (λ c. record { byte = c; line = a.line }) ∙ m; reads = run_reads a b f p e l }

pub run_bytes : (a b : Cursor) (f : List ℕ) → all_plain f ≡ true → a.rest.now ≡ f ++ b.rest.now → b.line ≡ a.line → bytes_at a ≡ f ++ bytes_at b
run_bytes a b f p e l = ap bytes_of (run_reads a b f p e l).text_is ∙ rw (map-append, chars_bytes a.line f) refl

-- a sure byte is the first character
pub sure_first : (l b : ℕ) (bs : List ℕ) → is_sure b ≡ true → logical l (b ∷ bs) ≡ record { byte = b; line = l } ∷ logical (cond (eqb b 10) (l + 1) l) bs
sure_first l b bs h =
    elim (or_cases (is_plain b) (eqb b 10) h) [ inl p ↦ (plain_first l b bs p ∙ rw (plain_no_line b p) refl) | inr p ↦ line_first l b bs (eqb-true b 10 p) ]

pub sure_step : (a : Cursor) (s : Step) → IsSureStep a s → IsStep a s
sure_step a s p =
    let f : text_at a ≡ char_of s ∷ text_at s.next = ap (logical a.line) p.rest_is ∙ sure_first a.line s.byte s.next.rest.now p.is_sure_byte ∙ rw (p.line_is, p.next_line_is) refl in
    record { text_is = f; least = omega (arith, ap length p.rest_is); plain = λ h. p.rest_is }

word_plain : (b : ℕ) → is_word b ≡ true → is_plain b ≡ true
word_plain b h = rw (not_word b 63 h refl, not_word b 92 h refl, not_word b 13 h refl, not_word b 10 h refl) refl

pub exclude : (b k : ℕ) (f : ℕ → Bool) → f b ≡ true → f k ≡ false → eqb b k ≡ false
exclude b k f h z = ne_eqb b k (λ e. both_ways (f k) z (subst (λ x. f x ≡ true) e h))

goes_on_plain : (last b : ℕ) → goes_on last b ≡ true → is_plain b ≡ true
goes_on_plain last b h = rw (exclude b 63 (goes_on last) h refl, exclude b 92 (goes_on last) h refl, exclude b 13 (goes_on last) h refl, exclude b 10 (goes_on last) h refl) refl

pub white_plain : (b : ℕ) → is_white b ≡ true → is_plain b ≡ true
white_plain b h = rw (exclude b 63 is_white h refl, exclude b 92 is_white h refl, exclude b 13 is_white h refl, exclude b 10 is_white h refl) refl

pub white_all_plain : (bs : List ℕ) → all_white bs ≡ true → all_plain bs ≡ true
white_all_plain [] h = refl
white_all_plain (b ∷ bs) h =
    let p = and_parts (is_white b) (all_white bs) h in
    and_from (is_plain b) (all_plain bs) (white_plain b p.0) (white_all_plain bs p.1)

white_front : (bs : List ℕ) → all_white (take (white_len bs) bs) ≡ true
white_front [] = refl
white_front (b ∷ bs) = white_cond (is_white b) (white_len bs) b bs (λ h. h) (white_front bs)
  where
    white_cond : (t : Bool) (n b : ℕ) (bs : List ℕ) → (t ≡ true → is_white b ≡ true) → all_white (take n bs) ≡ true → all_white (take (cond t (suc n) 0) (b ∷ bs)) ≡ true
    white_cond true n b bs f h = and_from (is_white b) (all_white (take n bs)) (f refl) h
    white_cond false n b bs f h = refl

and_cond : (t x : Bool) (n : ℕ) (b : ℕ) (bs : List ℕ) → (t ≡ true → is_plain b ≡ true) → all_plain (take n bs) ≡ true → all_plain (take (cond t (suc n) 0) (b ∷ bs)) ≡ true
and_cond true x n b bs f h = and_from (is_plain b) (all_plain (take n bs)) (f refl) h
and_cond false x n b bs f h = refl

pub word_front_plain : (bs : List ℕ) → all_plain (take (word_len bs) bs) ≡ true
word_front_plain [] = refl
word_front_plain (b ∷ bs) = and_cond (is_word b) true (word_len bs) b bs (word_plain b) (word_front_plain bs)

pub number_front_plain : (last : ℕ) (bs : List ℕ) → all_plain (take (number_more last bs) bs) ≡ true
number_front_plain last [] = refl
number_front_plain last (b ∷ bs) = and_cond (goes_on last b) true (number_more b bs) b bs (goes_on_plain last b) (number_front_plain b bs)

all_cond : (t : Bool) (stop n b : ℕ) (bs : List ℕ) → (t ≡ true → is_ordinary stop b ≡ true) → all_ordinary stop (take n bs) ≡ true → all_ordinary stop (take (cond t (suc n) 0) (b ∷ bs)) ≡ true
all_cond true stop n b bs f h = and_from (is_ordinary stop b) (all_ordinary stop (take n bs)) (f refl) h
all_cond false stop n b bs f h = refl

ordinary_front : (stop : ℕ) (bs : List ℕ) → all_ordinary stop (take (ordinary_len stop bs) bs) ≡ true
ordinary_front stop [] = refl
ordinary_front stop (b ∷ bs) = all_cond (is_ordinary stop b) stop (ordinary_len stop bs) b bs (λ h. h) (ordinary_front stop bs)

ordinary_plain : (stop : ℕ) (bs : List ℕ) → all_ordinary stop bs ≡ true → all_plain bs ≡ true
ordinary_plain stop [] h = refl
ordinary_plain stop (b ∷ bs) h =
    let p = and_parts (is_ordinary stop b) (all_ordinary stop bs) h in
    and_from (is_plain b) (all_plain bs) (and_parts (is_plain b) (not (eqb b stop)) p.0).0 (ordinary_plain stop bs p.1)

cond_most : (t : Bool) (n m : ℕ) → n ≤ m → cond t (suc n) 0 ≤ suc m
cond_most true n m h = omega arith
cond_most false n m h = omega arith

pub word_most : (bs : List ℕ) → word_len bs ≤ length bs
word_most [] = omega arith
word_most (b ∷ bs) = cond_most (is_word b) (word_len bs) (length bs) (word_most bs)

pub number_more_most : (last : ℕ) (bs : List ℕ) → number_more last bs ≤ length bs
number_more_most last [] = omega arith
number_more_most last (b ∷ bs) = cond_most (goes_on last b) (number_more b bs) (length bs) (number_more_most b bs)

pub ordinary_most : (stop : ℕ) (bs : List ℕ) → ordinary_len stop bs ≤ length bs
ordinary_most stop [] = omega arith
ordinary_most stop (b ∷ bs) = cond_most (is_ordinary stop b) (ordinary_len stop bs) (length bs) (ordinary_most stop bs)

-- a front of ordinary bytes is counted whole
ordinary_passes : (stop n : ℕ) (bs : List ℕ) → n ≤ length bs → all_ordinary stop (take n bs) ≡ true → ordinary_len stop bs ≡ n + ordinary_len stop (drop n bs)
ordinary_passes stop zero bs m h = omega arith
ordinary_passes stop (suc n) [] m h = absurd (omega (arith, m))
ordinary_passes stop (suc n) (b ∷ bs) m h =
    let p = and_parts (is_ordinary stop b) (all_ordinary stop (take n bs)) h in
    rw p.0 (omega (arith, ordinary_passes stop n bs (omega (arith, m)) p.1))

-- one block more
pub ordinary_block : (stop count k : ℕ) (bs : List ℕ) → count ≤ length bs → ordinary_len stop bs ≡ count + ordinary_len stop (drop count bs) → k ≤ length bs - count → all_ordinary stop (take (count + k - count) (drop count bs)) ≡ true → ordinary_len stop bs ≡ count + k + ordinary_len stop (drop (count + k) bs)
ordinary_block stop count k bs m e room h =
    let o : all_ordinary stop (take k (drop count bs)) ≡ true = subst (λ n. all_ordinary stop (take n (drop count bs)) ≡ true) (omega arith) h in
    let q = ordinary_passes stop k (drop count bs) (rw (length-drop count bs) room) o in
    omega (arith, e, q, ap (ordinary_len stop) (drop-drop k count bs))

-- the front, and the count of the bytes after it
pub ordinary_rest : (stop count : ℕ) (bs : List ℕ) (n : ℕ) → n ≡ ordinary_len stop (take (length bs - count) (drop count bs)) → ordinary_len stop bs ≡ count + ordinary_len stop (drop count bs) → count + n ≤ length bs
ordinary_rest stop count bs n r e =
    let t : take (length bs - count) (drop count bs) ≡ drop count bs = take_all (length bs - count) (drop count bs) (rw (length-drop count bs) (omega arith)) in
    omega (arith, e, r, ap (ordinary_len stop) t, ordinary_most stop bs)

pub white_most : (bs : List ℕ) → white_len bs ≤ length bs
white_most [] = omega arith
white_most (b ∷ bs) = cond_most (is_white b) (white_len bs) (length bs) (white_most bs)

pub split : (a b : Cursor) (n : ℕ) → b.rest.now ≡ drop n a.rest.now → a.rest.now ≡ take n a.rest.now ++ b.rest.now
split a b n e = rw e (sym (take-append-drop n a.rest.now))

-- the plain bytes up to `stop`
pub ordinary_run : (a b : Cursor) (stop n : ℕ) → n ≡ ordinary_len stop a.rest.now → b.rest.now ≡ drop n a.rest.now → b.line ≡ a.line → IsRun a stop (record { count = n; after = b })
ordinary_run a b stop n e r l =
    let f = take n a.rest.now in
    let o : all_ordinary stop f ≡ true = subst (λ k. all_ordinary stop (take k a.rest.now) ≡ true) (sym e) (ordinary_front stop a.rest.now) in
    let p = ordinary_plain stop f o in
    let m : length f ≡ n = length-take-le n a.rest.now (omega (arith, e, ordinary_most stop a.rest.now)) in
    record { front = f; ordinary = o; count_is = m; bytes_is = run_bytes a b f p (split a b n r) l; spans = run_spans a b f n p (split a b n r) l m }

pub white_within : (one n : ℕ) (bs : List ℕ) → one < length bs → n ≡ white_len (take (length bs - one) (drop one bs)) → one + n ≤ length bs
white_within one n bs h e = omega (arith, h, e, white_most (take (length bs - one) (drop one bs)), length-take (length bs - one) (drop one bs))

-- the white space from here on
pub white_run : (a b : Cursor) (n : ℕ) → n ≡ white_len a.rest.now → b.rest.now ≡ drop n a.rest.now → b.line ≡ a.line → IsWhiteRun a (record { count = n; after = b })
white_run a b n e r l =
    record {
      front = take n a.rest.now;
      white = subst (λ k. all_white (take k a.rest.now) ≡ true) (sym e) (white_front a.rest.now);
      count_is = length-take-le n a.rest.now (omega (arith, e, white_most a.rest.now));
      rest_is = split a b n r;
      line_is = l;
    }

-- a word that ends before a sure byte
pub word_stop : (bs x r : List ℕ) (e : ℕ) → drop (word_len bs) bs ≡ e ∷ r → word_len (take (word_len bs) bs ++ e ∷ x) ≡ word_len bs
word_stop [] x r e h = absurd (cc)
word_stop (b ∷ bs) x r e h =
    elim (cases_Bool (is_word b)) [ inl t ↦ (let g : drop (word_len bs) bs ≡ e ∷ r = subst (λ k. drop (cond k (suc (word_len bs)) 0) (b ∷ bs) ≡ e ∷ r) t h in rw (t, t) (ap suc (word_stop bs x r e g))) | inr t ↦ (let g : b ∷ bs ≡ e ∷ r = subst (λ k. drop (cond k (suc (word_len bs)) 0) (b ∷ bs) ≡ e ∷ r) t h in let y : b ≡ e = ap (λ l. slice_index l 0) g in rw (t, ← y, t) refl) ]

pub number_stop : (last : ℕ) (bs x r : List ℕ) (e : ℕ) → drop (number_more last bs) bs ≡ e ∷ r → number_more last (take (number_more last bs) bs ++ e ∷ x) ≡ number_more last bs
number_stop last [] x r e h = absurd (cc)
number_stop last (b ∷ bs) x r e h =
    elim (cases_Bool (goes_on last b)) [ inl t ↦ (let g : drop (number_more b bs) bs ≡ e ∷ r = subst (λ k. drop (cond k (suc (number_more b bs)) 0) (b ∷ bs) ≡ e ∷ r) t h in rw (t, t) (ap suc (number_stop b bs x r e g))) | inr t ↦ (let g : b ∷ bs ≡ e ∷ r = subst (λ k. drop (cond k (suc (number_more b bs)) 0) (b ∷ bs) ≡ e ∷ r) t h in let y : b ≡ e = ap (λ l. slice_index l 0) g in rw (t, ← y, t) refl) ]

longer_suc : (n : ℕ) (t : Bool × ℕ) → also (longer n t) ≡ longer (suc n) t
longer_suc n t = let e : suc (n + t.1) ≡ suc n + t.1 = omega arith in ap (λ k. (t.0, k)) e

longer_none : (t : Bool × ℕ) → t ≡ longer 0 t
longer_none t = let e : t.1 ≡ 0 + t.1 = omega arith in ap (λ k. (t.0, k)) e

ordinary_parts : (stop b : ℕ) (f : List ℕ) → all_ordinary stop (b ∷ f) ≡ true → (is_plain b ≡ true) × (eqb b stop ≡ false) × (all_ordinary stop f ≡ true)
ordinary_parts stop b f h =
    let p = and_parts (is_ordinary stop b) (all_ordinary stop f) h in
    let q = and_parts (is_plain b) (not (eqb b stop)) p.0 in
    (q.0, not-true (eqb b stop) q.1, p.1)

comment_over : (f q : List ℕ) → all_ordinary 42 f ≡ true → comment_len false (f ++ q) ≡ longer (length f) (comment_len false q)
comment_over [] q h = longer_none (comment_len false q)
comment_over (b ∷ f) q h =
    let p = ordinary_parts 42 b f h in
    ap (λ k. also (comment_len k (f ++ q))) p.1 ∙ ap also (comment_over f q p.2) ∙ longer_suc (length f) (comment_len false q)

pub comment_pass : (a : Cursor) (s : Span) → IsRun a 42 s → comment_len false (bytes_at a) ≡ longer s.count (comment_len false (bytes_at s.after))
comment_pass a s p = ap (comment_len false) p.bytes_is ∙ comment_over p.front (bytes_at s.after) p.ordinary ∙ ap (λ k. longer k (comment_len false (bytes_at s.after))) p.count_is

line_over : (f q : List ℕ) → all_ordinary 10 f ≡ true → line_len (f ++ q) ≡ length f + line_len q
line_over [] q h = omega arith
line_over (b ∷ f) q h =
    let p = ordinary_parts 10 b f h in
    let i = line_over f q p.2 in
    rw p.1 (omega (arith, i))

pub line_pass : (a : Cursor) (s : Span) → IsRun a 10 s → line_len (bytes_at a) ≡ s.count + line_len (bytes_at s.after)
line_pass a s p = ap line_len p.bytes_is ∙ line_over p.front (bytes_at s.after) p.ordinary ∙ ap (λ k. k + line_len (bytes_at s.after)) p.count_is

plus_suc : (n : ℕ) (o : Option ℕ) → one_more (plus n o) ≡ plus (suc n) o
plus_suc n None = refl
plus_suc n (Some m) = ap Some (omega arith)

plus_none : (o : Option ℕ) → o ≡ plus 0 o
plus_none None = refl
plus_none (Some m) = ap Some (omega arith)

close_over : (close : ℕ) (escapes : Bool) (f q : List ℕ) → all_ordinary close f ≡ true → to_close close escapes false (f ++ q) ≡ plus (length f) (to_close close escapes false q)
close_over close escapes [] q h = plus_none (to_close close escapes false q)
close_over close escapes (b ∷ f) q h =
    let p = ordinary_parts close b f h in
    let e : escapes_next escapes false b ≡ false = and_right escapes (not false && eqb b 92) (plain_no_escape b p.0) in
    let g : to_close close escapes false (b ∷ f ++ q) ≡ one_more (to_close close escapes false (f ++ q)) = rw (plain_no_line b p.0, p.1, e) refl in
    g ∙ ap one_more (close_over close escapes f q p.2) ∙ plus_suc (length f) (to_close close escapes false q)

pub close_pass : (close : ℕ) (escapes : Bool) (a : Cursor) (s : Span) → IsRun a close s → to_close close escapes false (bytes_at a) ≡ plus s.count (to_close close escapes false (bytes_at s.after))
close_pass close escapes a s p = ap (to_close close escapes false) p.bytes_is ∙ close_over close escapes p.front (bytes_at s.after) p.ordinary ∙ ap (λ k. plus k (to_close close escapes false (bytes_at s.after))) p.count_is
