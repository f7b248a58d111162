-- Laws of pieces that the raw bytes alone determine.
use Rattle.std.proofs.Common.{◌≡◌, ℕ, suc, slice_index, ◌+◌, eqb, leb, ltb, ◌&&◌, Bool, true, false, not, cond, List, [], ◌∷◌, ◌++◌, length, take, drop, refl, sym, ap, ◌∙◌, subst, arith, inl, inr}
use Rattle.std.specs.Prelude.{codes}
use Rattle.std.proofs.lemmas.Bool.{cases_Bool, and_parts, and_cases, and_left, and_right, or_parts, or_cases, eqb-true, ne_eqb, both_ways, not-true, leb-true, lt-ltb, lt-leb}
use Rattle.std.proofs.lemmas.List.{drop_at, length-take-le}
use Rattle.phases.specs.Text.{bytes_of}
use Rattle.phases.specs.inside.Lexical.{is_digit, is_letter, is_word, is_white, is_prefix, word_len, number_more, begins_digit, enclosed, behind, one_of, is_single, is_pair, is_triple, is_quadruple, first_kind, character_len, string_len, name_len, number_len, punctuator_len, header_len, header_or, plain_token, token_front}
use Rattle.phases.specs.inside.Pieces.{word_piece, front}
use Rattle.phases.specs.inside.Quick.{is_quote, is_opening, is_further, may_go_on}
use Rattle.phases.specs.inside.Runs.{IsSureStep}
use Rattle.phases.specs.declared.cursor.Cursor.{Cursor}
use Rattle.phases.specs.declared.cursor.Step.{Step}
use Rattle.phases.specs.declared.token.Kind.{Kind}
use Rattle.phases.specs.declared.token.Kind.TheVariants.{Identifier, Number, Punctuator}
use Rattle.phases.specs.declared.token.Place.{Place}
use Rattle.phases.specs.declared.token.Place.TheVariants.{Start, AfterHash, AfterInclude, Elsewhere}
use Rattle.phases.specs.declared.token.Piece.{Piece}
use Rattle.phases.specs.declared.token.Piece.TheVariants.{Word}
use Rattle.phases.specs.inside.Reading.{bytes_at, IsStep, Spans}
use Rattle.phases.specs.inside.Fronts.{IsPiece}
use Rattle.phases.proofs.ReadingLemmas.{spans_none, spans_join, spans_step}
use Rattle.phases.proofs.RunLemmas.{all_plain, exclude, sure_step, split, run_spans, run_bytes, word_front_plain, number_front_plain, word_stop, number_stop, word_most, number_more_most}
use Rattle.phases.proofs.DominanceLemmas.{letter_above}

differs : (b k : ℕ) (f : ℕ → Bool) → f b ≡ false → f k ≡ true → eqb b k ≡ false
differs b k f h z = ne_eqb b k (λ e. both_ways (f k) (subst (λ x. f x ≡ false) e h) z)

-- the byte begins no white space, comment, literal or header name
record Begins (b : ℕ) : Type 0 where
  pub line : eqb b 10 ≡ false
  pub white : is_white b ≡ false
  pub slash : eqb b 47 ≡ false
  pub angle : eqb b 60 ≡ false
  pub double : eqb b 34 ≡ false
  pub single : eqb b 39 ≡ false

begins : (b : ℕ) (f : ℕ → Bool) → f b ≡ true → f 10 ≡ false → f 32 ≡ false → f 9 ≡ false → f 11 ≡ false → f 12 ≡ false → f 47 ≡ false → f 60 ≡ false → f 34 ≡ false → f 39 ≡ false → Begins b
begins b f h p q r s t u v w x =
    record { line = exclude b 10 f h p; white = rw (exclude b 32 f h q, exclude b 9 f h r, exclude b 11 f h s, exclude b 12 f h t) refl; slash = exclude b 47 f h u; angle = exclude b 60 f h v; double = exclude b 34 f h w; single = exclude b 39 f h x }

token_front_is : (place : Place) (b : ℕ) (bs : List ℕ) (k : Kind) (n : ℕ) → Begins b → plain_token (b ∷ bs) ≡ (k, suc n) → token_front place (b ∷ bs) ≡ (k, suc n)
token_front_is Start b bs k n g e = e
token_front_is AfterHash b bs k n g e = e
token_front_is Elsewhere b bs k n g e = e
token_front_is AfterInclude b bs k n g e =
    let h : header_len (b ∷ bs) ≡ 0 = rw (g.angle, g.double) refl in
    ap (λ x. header_or x (plain_token (b ∷ bs))) h ∙ ap (λ x. header_or 0 x) e ∙ rw (lt-leb (suc n) 0 (omega arith)) refl

front_is : (place : Place) (b : ℕ) (bs : List ℕ) (k : Kind) (n : ℕ) → Begins b → plain_token (b ∷ bs) ≡ (k, suc n) → front place b bs ≡ (Word k, suc n)
front_is place b bs k n g e = rw (g.line, g.white, g.slash) (ap word_piece (token_front_is place b bs k n g e))

-- a word that no quote follows is no prefix
no_quote : (q least : ℕ) (bs : List ℕ) → is_word q ≡ false → eqb (slice_index (drop (word_len bs) bs) 0) q ≡ false → enclosed q q least true bs ≡ 0
no_quote q least [] w h = refl
no_quote q least (c ∷ bs) w h =
    elim (cases_Bool (is_word c)) [ inl t ↦ rw (exclude c q is_word t w) refl | inr t ↦ (let g : eqb c q ≡ false = subst (λ k. eqb (slice_index (drop (cond k (suc (word_len bs)) 0) (c ∷ bs)) 0) q ≡ false) t h in rw g refl) ]

no_character : (t : Bool) (b : ℕ) (bs : List ℕ) → eqb b 39 ≡ false → eqb (slice_index (drop (word_len bs) bs) 0) 39 ≡ false → behind (cond t 1 0) (enclosed 39 39 1 true (drop (cond t 1 0) (b ∷ bs))) ≡ 0
no_character true b bs e h = rw (no_quote 39 1 bs refl h) refl
no_character false b bs e h = rw e refl

u8_string : (bs : List ℕ) → eqb (slice_index bs 0) 56 ≡ true → eqb (slice_index (drop (word_len bs) bs) 0) 34 ≡ false → enclosed 34 34 0 true (drop 1 bs) ≡ 0
u8_string [] e h = refl
u8_string (c ∷ bs) e h =
    let x : 56 ≡ c = sym (eqb-true c 56 e) in
    no_quote 34 0 bs refl (subst (λ k. eqb (slice_index (drop (word_len (k ∷ bs)) (k ∷ bs)) 0) 34 ≡ false) (sym x) h)

no_string : (x t : Bool) (b : ℕ) (bs : List ℕ) → (x ≡ true → eqb (slice_index bs 0) 56 ≡ true) → eqb b 34 ≡ false → eqb (slice_index (drop (word_len bs) bs) 0) 34 ≡ false → behind (cond x 2 (cond t 1 0)) (enclosed 34 34 0 true (drop (cond x 2 (cond t 1 0)) (b ∷ bs))) ≡ 0
no_string true t b bs f e h = rw (u8_string bs (f refl) h) refl
no_string false true b bs f e h = rw (no_quote 34 0 bs refl h) refl
no_string false false b bs f e h = rw e refl

some : (m : ℕ) → ltb 0 (suc m) ≡ true
some m = lt-ltb 0 (suc m) (omega arith)

named : (c s n m : ℕ) (d p : ℕ) → c ≡ 0 → s ≡ 0 → n ≡ suc m → first_kind c s n d p ≡ (Identifier, suc m)
named c s n m d p x y z = ap (λ k. first_kind k s n d p) x ∙ ap (λ k. first_kind 0 k n d p) y ∙ ap (λ k. first_kind 0 0 k d p) z ∙ rw (some m) refl

name_front : (place : Place) (b : ℕ) (bs : List ℕ) → is_letter b ≡ true → is_quote (slice_index (drop (word_len bs) bs) 0) ≡ false → front place b bs ≡ (Word Identifier, suc (word_len bs))
name_front place b bs l q =
    let e = or_parts (eqb (slice_index (drop (word_len bs) bs) 0) 34) (eqb (slice_index (drop (word_len bs) bs) 0) 39) q in
    let g = begins b is_letter l refl refl refl refl refl refl refl refl refl in
    let c : character_len (b ∷ bs) ≡ 0 = no_character (is_prefix b) b bs g.single e.1 in
    let s : string_len (b ∷ bs) ≡ 0 = no_string (eqb b 117 && eqb (slice_index bs 0) 56) (is_prefix b) b bs (λ h. (and_parts (eqb b 117) (eqb (slice_index bs 0) 56) h).1) g.double e.0 in
    let n : name_len (b ∷ bs) ≡ suc (word_len bs) = rw l refl in
    front_is place b bs Identifier (word_len bs) g (named (character_len (b ∷ bs)) (string_len (b ∷ bs)) (name_len (b ∷ bs)) (word_len bs) (number_len (b ∷ bs)) (punctuator_len (b ∷ bs)) c s n)

-- a byte that is no letter and no quote begins neither literals nor names
record Bare (b : ℕ) (bs : List ℕ) : Type 0 where
  pub character : character_len (b ∷ bs) ≡ 0
  pub string : string_len (b ∷ bs) ≡ 0
  pub name : name_len (b ∷ bs) ≡ 0

bare : (b : ℕ) (bs : List ℕ) → is_letter b ≡ false → eqb b 34 ≡ false → eqb b 39 ≡ false → Bare b bs
bare b bs l d s =
    let x = differs b 76 is_letter l refl in
    let y = differs b 117 is_letter l refl in
    let z = differs b 85 is_letter l refl in
    record { character = rw (x, y, z, s) refl; string = rw (y, x, z, d) refl; name = rw l refl }

numbered : (c s n d m p : ℕ) → c ≡ 0 → s ≡ 0 → n ≡ 0 → d ≡ suc m → first_kind c s n d p ≡ (Number, suc m)
numbered c s n d m p x y z w = ap (λ k. first_kind k s n d p) x ∙ ap (λ k. first_kind 0 k n d p) y ∙ ap (λ k. first_kind 0 0 k d p) z ∙ ap (λ k. first_kind 0 0 0 k p) w ∙ rw (some m) refl

letter_not : (b : ℕ) → is_digit b ≡ true → is_letter b ≡ false
letter_not b h =
    let d = leb-true b 57 (and_parts (leb 48 b) (leb b 57) h).1 in
    elim (cases_Bool (is_letter b)) [ inl e ↦ (let x = letter_above b e in absurd (omega arith)) | inr e ↦ e ]

number_front : (place : Place) (b : ℕ) (bs : List ℕ) → is_digit b ≡ true → front place b bs ≡ (Word Number, suc (number_more b bs))
number_front place b bs h =
    let g = begins b is_digit h refl refl refl refl refl refl refl refl refl in
    let l : is_letter b ≡ false = letter_not b h in
    let w = bare b bs l g.double g.single in
    let n : number_len (b ∷ bs) ≡ suc (number_more b bs) = rw h refl in
    front_is place b bs Number (number_more b bs) g (numbered (character_len (b ∷ bs)) (string_len (b ∷ bs)) (name_len (b ∷ bs)) (number_len (b ∷ bs)) (number_more b bs) (punctuator_len (b ∷ bs)) w.character w.string w.name n)

-- the raw bytes of a run after its first byte, and the sure byte that ends it
after_run : (a b : Cursor) (e : Step) (f : List ℕ) (n : ℕ) → bytes_at a ≡ f ++ bytes_at b → IsSureStep b e → bytes_at a ≡ f ++ e.byte ∷ bytes_at e.next
after_run a b e f n p s = p ∙ ap (λ t. f ++ t) (ap bytes_of (sure_step b e s).text_is)

piece_of : (a b : Cursor) (s : Step) (n : ℕ) (k : Kind) (t : Piece × ℕ) → IsStep a s → Spans s.next n b → t ≡ (Word k, suc n) → IsPiece a t (record { piece = Word k; span = record { count = 1 + n; after = b } })
piece_of a b s n k t p q e =
    record { piece_is = sym (ap (λ x. x.0) e); count_is = omega (arith, ap (λ x. x.1) e); spans = spans_join a s.next b 1 n (spans_step a s p) q; some = omega arith }

pub name_piece : (place : Place) (a b : Cursor) (s e : Step) (n : ℕ) → IsStep a s → is_letter s.byte ≡ true → n ≡ word_len s.next.rest.now → b.rest.now ≡ drop n s.next.rest.now → b.line ≡ s.next.line → IsSureStep b e → is_quote e.byte ≡ false → IsPiece a (front place s.byte (bytes_at s.next)) (record { piece = Word Identifier; span = record { count = 1 + n; after = b } })
name_piece place a b s e n p l m r i u q =
    let raw = s.next.rest.now in
    let f = take n raw in
    let g = subst (λ k. all_plain (take k raw) ≡ true) (sym m) (word_front_plain raw) in
    let k : length f ≡ n = length-take-le n raw (omega (arith, m, word_most raw)) in
    let y = after_run s.next b e f n (run_bytes s.next b f g (split s.next b n r) i) u in
    let d : drop (word_len raw) raw ≡ e.byte ∷ e.next.rest.now = ap (λ j. drop j raw) (sym m) ∙ sym r ∙ u.rest_is in
    let w : word_len (f ++ e.byte ∷ bytes_at e.next) ≡ n = ap (λ j. word_len (take j raw ++ e.byte ∷ bytes_at e.next)) m ∙ word_stop raw (bytes_at e.next) e.next.rest.now e.byte d ∙ sym m in
    let v : word_len (bytes_at s.next) ≡ n = ap word_len y ∙ w in
    let h : drop n (bytes_at s.next) ≡ e.byte ∷ bytes_at e.next = ap (λ t. drop n t) y ∙ drop_at f (e.byte ∷ bytes_at e.next) n k in
    let z : is_quote (slice_index (drop (word_len (bytes_at s.next)) (bytes_at s.next)) 0) ≡ false = ap (λ j. is_quote (slice_index (drop j (bytes_at s.next)) 0)) v ∙ ap (λ t. is_quote (slice_index t 0)) h ∙ q in
    piece_of a b s n Identifier (front place s.byte (bytes_at s.next)) p (run_spans s.next b f n g (split s.next b n r) i k) (name_front place s.byte (bytes_at s.next) l z ∙ ap (λ j. (Word Identifier, suc j)) v)

pub number_piece : (place : Place) (a b : Cursor) (s e : Step) (n : ℕ) → IsStep a s → is_digit s.byte ≡ true → n ≡ number_more s.byte s.next.rest.now → b.rest.now ≡ drop n s.next.rest.now → b.line ≡ s.next.line → IsSureStep b e → IsPiece a (front place s.byte (bytes_at s.next)) (record { piece = Word Number; span = record { count = 1 + n; after = b } })
number_piece place a b s e n p l m r i u =
    let raw = s.next.rest.now in
    let f = take n raw in
    let g = subst (λ k. all_plain (take k raw) ≡ true) (sym m) (number_front_plain s.byte raw) in
    let k : length f ≡ n = length-take-le n raw (omega (arith, m, number_more_most s.byte raw)) in
    let y = after_run s.next b e f n (run_bytes s.next b f g (split s.next b n r) i) u in
    let d : drop (number_more s.byte raw) raw ≡ e.byte ∷ e.next.rest.now = ap (λ j. drop j raw) (sym m) ∙ sym r ∙ u.rest_is in
    let w : number_more s.byte (f ++ e.byte ∷ bytes_at e.next) ≡ n = ap (λ j. number_more s.byte (take j raw ++ e.byte ∷ bytes_at e.next)) m ∙ number_stop s.byte raw (bytes_at e.next) e.next.rest.now e.byte d ∙ sym m in
    let v : number_more s.byte (bytes_at s.next) ≡ n = ap (number_more s.byte) y ∙ w in
    piece_of a b s n Number (front place s.byte (bytes_at s.next)) p (run_spans s.next b f n g (split s.next b n r) i k) (number_front place s.byte (bytes_at s.next) l ∙ ap (λ j. (Word Number, suc j)) v)

-- nothing of these kinds begins with these two bytes
record Alone (b c : ℕ) : Type 0 where
  pub line : (eqb b 47 && eqb c 47) ≡ false
  pub comment : (eqb b 47 && eqb c 42) ≡ false
  pub number : (eqb b 46 && is_digit c) ≡ false
  pub quadruple : (eqb b 37 && eqb c 58) ≡ false
  pub triple : (x : ℕ) → is_triple b c x ≡ false

not_same : (b c x : ℕ) → is_further c ≡ false → is_triple b c x ≡ false
not_same b c x h =
    elim (cases_Bool (eqb b c)) [ inl e ↦ (let y = subst (λ k. is_further k ≡ false) (sym (eqb-true b c e)) h in rw (differs b 46 is_further y refl, differs b 60 is_further y refl, differs b 62 is_further y refl) (and_right (eqb b c) false refl)) | inr e ↦ rw e refl ]

alone : (b c : ℕ) → may_go_on b c ≡ false → Alone b c
alone b c h =
    elim (and_cases (is_opening b) (is_further c) h) [
      | inl o ↦ record {
        line = and_left (eqb b 47) (eqb c 47) (differs b 47 is_opening o refl);
        comment = and_left (eqb b 47) (eqb c 42) (differs b 47 is_opening o refl);
        number = and_left (eqb b 46) (is_digit c) (differs b 46 is_opening o refl);
        quadruple = and_left (eqb b 37) (eqb c 58) (differs b 37 is_opening o refl);
        triple = λ x. rw (differs b 46 is_opening o refl, differs b 60 is_opening o refl, differs b 62 is_opening o refl) (and_right (eqb b c) false refl);
      }
      | inr o ↦ record {
        line = and_right (eqb b 47) (eqb c 47) (differs c 47 is_further o refl);
        comment = and_right (eqb b 47) (eqb c 42) (differs c 42 is_further o refl);
        number = and_right (eqb b 46) (is_digit c) (or_parts _ (is_digit c) o).1;
        quadruple = and_right (eqb b 37) (eqb c 58) (differs c 58 is_further o refl);
        triple = λ x. not_same b c x o;
      }
    ]

abbrev none_of : (ℕ → Bool) → List ℕ → Bool
none_of f [] = true
none_of f (k ∷ ks) = not (f k) && none_of f ks

one_of_none : (f : ℕ → Bool) (ks : List ℕ) (b : ℕ) → none_of f ks ≡ true → one_of b ks ≡ true → f b ≡ false
one_of_none f [] b h e = absurd (cc)
one_of_none f (k ∷ ks) b h e =
    let p = and_parts (not (f k)) (none_of f ks) h in
    elim (or_cases (eqb k b) (one_of b ks) e) [ inl u ↦ subst (λ x. f x ≡ false) (eqb-true k b u) (not-true (f k) p.0) | inr u ↦ one_of_none f ks b p.1 u ]

marked : (c s n d p m : ℕ) → c ≡ 0 → s ≡ 0 → n ≡ 0 → d ≡ 0 → p ≡ suc m → first_kind c s n d p ≡ (Punctuator, suc m)
marked c s n d p m x y z w v = ap (λ k. first_kind k s n d p) x ∙ ap (λ k. first_kind 0 k n d p) y ∙ ap (λ k. first_kind 0 0 k d p) z ∙ ap (λ k. first_kind 0 0 0 k p) w ∙ ap (λ k. first_kind 0 0 0 0 k) v ∙ rw (some m) refl

dot_number : (t : Bool) (bs : List ℕ) → (t && is_digit (slice_index bs 0)) ≡ false → (t && begins_digit bs) ≡ false
dot_number t [] h = and_right t false refl
dot_number t (b ∷ bs) h = h

plain_place : (place : Place) (bs : List ℕ) → (place ≡ AfterInclude → ⊥) → token_front place bs ≡ plain_token bs
plain_place Start bs h = refl
plain_place AfterHash bs h = refl
plain_place Elsewhere bs h = refl
plain_place AfterInclude bs h = absurd (h refl)

mark_front : (place : Place) (b m : ℕ) (bs : List ℕ) → (place ≡ AfterInclude → ⊥) → is_single b ≡ true → may_go_on b (slice_index bs 0) ≡ false → cond (is_pair b (slice_index bs 0)) 2 1 ≡ suc m → front place b bs ≡ (Word Punctuator, suc m)
mark_front place b m bs a h g e =
    let c = slice_index bs 0 in
    let x = alone b c g in
    let l = one_of_none is_letter (codes "[](){}.&*+-~!/%<>^|?:;=,#") b refl h in
    let d = one_of_none is_digit (codes "[](){}.&*+-~!/%<>^|?:;=,#") b refl h in
    let w = one_of_none is_white (codes "[](){}.&*+-~!/%<>^|?:;=,#") b refl h in
    let y = bare b bs l (exclude b 34 is_single h refl) (exclude b 39 is_single h refl) in
    let n : number_len (b ∷ bs) ≡ 0 = rw (d, dot_number (eqb b 46) bs x.number) refl in
    let q : is_quadruple b c (slice_index bs 1) (slice_index bs 2) ≡ false = rw x.quadruple refl in
    let p : punctuator_len (b ∷ bs) ≡ suc m = rw (q, x.triple (slice_index bs 1), h) e in
    let t : plain_token (b ∷ bs) ≡ (Punctuator, suc m) = marked (character_len (b ∷ bs)) (string_len (b ∷ bs)) (name_len (b ∷ bs)) (number_len (b ∷ bs)) (punctuator_len (b ∷ bs)) m y.character y.string y.name n p in
    rw (exclude b 10 is_single h refl, w, x.line, x.comment) (ap word_piece (plain_place place (b ∷ bs) a ∙ t))

-- the second character
second_is : (s t : Step) → IsSureStep s.next t → bytes_at s.next ≡ t.byte ∷ bytes_at t.next
second_is s t p = ap bytes_of (sure_step s.next t p).text_is

pub pair_piece : (place : Place) (a : Cursor) (s t : Step) → (place ≡ AfterInclude → ⊥) → IsStep a s → is_single s.byte ≡ true → IsSureStep s.next t → may_go_on s.byte t.byte ≡ false → is_pair s.byte t.byte ≡ true → IsPiece a (front place s.byte (bytes_at s.next)) (record { piece = Word Punctuator; span = record { count = 2; after = t.next } })
pair_piece place a s t n p h u g e =
    let y = second_is s t u in
    let z : front place s.byte (t.byte ∷ bytes_at t.next) ≡ (Word Punctuator, 2) = mark_front place s.byte 1 (t.byte ∷ bytes_at t.next) n h g (rw e refl) in
    piece_of a t.next s 1 Punctuator (front place s.byte (bytes_at s.next)) p (spans_step s.next t (sure_step s.next t u)) (ap (λ x. front place s.byte x) y ∙ z)

pub single_piece : (place : Place) (a : Cursor) (s t : Step) → (place ≡ AfterInclude → ⊥) → IsStep a s → is_single s.byte ≡ true → IsSureStep s.next t → may_go_on s.byte t.byte ≡ false → is_pair s.byte t.byte ≡ false → IsPiece a (front place s.byte (bytes_at s.next)) (record { piece = Word Punctuator; span = record { count = 1; after = s.next } })
single_piece place a s t n p h u g e =
    let y = second_is s t u in
    let z : front place s.byte (t.byte ∷ bytes_at t.next) ≡ (Word Punctuator, 1) = mark_front place s.byte 0 (t.byte ∷ bytes_at t.next) n h g (rw e refl) in
    piece_of a s.next s 0 Punctuator (front place s.byte (bytes_at s.next)) p (spans_none s.next) (ap (λ x. front place s.byte x) y ∙ z)
