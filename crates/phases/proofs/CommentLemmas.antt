-- The piece at the front of a text, by cases and as a scanner finds it.
use Rattle.std.proofs.Common.{◌≡◌, ℕ, suc, eqb, ◌||◌, ◌&&◌, Bool, true, false, cond, List, [], ◌∷◌, ◌++◌, length, drop, refl, sym, ap, ◌∙◌, Option, None, Some, slice_index}
use Rattle.phases.specs.declared.token.Place.{Place}
use Rattle.phases.specs.declared.token.Piece.TheVariants.{Newline, Gap}
use Rattle.phases.specs.Characters.{is_white}
use Rattle.phases.specs.Grammar.{longest_token}
use Rattle.phases.specs.Lines.{ends_comment, has_comment_end, further, body_len, comment_at, piece_at, line_len, word_piece, opens, AreComments}
use Rattle.phases.specs.inside.Pieces.{also, comment_len, comment_piece, front}
use Rattle.phases.proofs.GrammarLemmas.{token_law}

-- whether a comment is closed and how far it goes, by the length of its body
abbrev through : Option ℕ → ℕ → Bool × ℕ
through (Some n) rest = (true, suc (suc n))
through None rest = (false, rest)

through_more : (o : Option ℕ) (rest : ℕ) → also (through o rest) ≡ through (further o) (suc rest)
through_more None rest = refl
through_more (Some n) rest = refl

-- after a star, where `t` says that a slash comes next
star_step : (t : Bool) (o : Option ℕ) (rest : ℕ) → also (cond t (true, 1) (through o rest)) ≡ through (cond t (Some 0) (further o)) (suc rest)
star_step true o rest = refl
star_step false o rest = through_more o rest

byte_step : (s t : Bool) (x : Bool × ℕ) (o : Option ℕ) (rest : ℕ) (f : Bool → Bool × ℕ) → f true ≡ cond t (true, 1) (through o rest)
    → f false ≡ through o rest → also (f s) ≡ through (cond (s && t) (Some 0) (further o)) (suc rest)
byte_step true t x o rest f g h = ap also g ∙ star_step t o rest
byte_step false t x o rest f g h = ap also h ∙ through_more o rest

comment_star : (bs : List ℕ) → comment_len false bs ≡ through (body_len bs) (length bs)
    → comment_len true bs ≡ cond (eqb (slice_index bs 0) 47) (true, 1) (through (body_len bs) (length bs))
comment_star [] h = refl
comment_star (b ∷ bs) h = ap (λ k. cond (eqb b 47) (true, 1) k) h

comment_law : (bs : List ℕ) → comment_len false bs ≡ through (body_len bs) (length bs)
comment_law [] = refl
comment_law (b ∷ bs) =
    byte_step (eqb b 42) (eqb (slice_index bs 0) 47) (true, 1) (body_len bs) (length bs) (λ star. comment_len star bs) (comment_star bs (comment_law bs)) (comment_law bs)

comment_piece_law : (o : Option ℕ) (rest : ℕ) → comment_at o rest ≡ comment_piece (through o rest)
comment_piece_law None rest = refl
comment_piece_law (Some n) rest = refl

pub piece_law : (place : Place) (b : ℕ) (bs : List ℕ) → piece_at place b bs ≡ front place b bs
piece_law place b bs =
    let c : comment_at (body_len (drop 1 bs)) (length (drop 1 bs)) ≡ comment_piece (comment_len false (drop 1 bs)) = comment_piece_law (body_len (drop 1 bs)) (length (drop 1 bs)) ∙ ap comment_piece (sym (comment_law (drop 1 bs))) in
    ap (λ k. cond (eqb b 10) (Newline, 1) (cond (is_white b) (Gap, 1) (cond (opens 47 b bs) (Gap, suc (line_len bs)) (cond (opens 42 b bs) k (word_piece (longest_token place (b ∷ bs))))))) c
    ∙ ap (λ k. cond (eqb b 10) (Newline, 1) (cond (is_white b) (Gap, 1) (cond (opens 47 b bs) (Gap, suc (line_len bs)) (cond (opens 42 b bs) (comment_piece (comment_len false (drop 1 bs))) (word_piece k))))) (token_law place (b ∷ bs))

-- ---- comments, by their bodies

or_parts : (t u : Bool) → (t || u) ≡ false → (t ≡ false) × (u ≡ false)
or_parts true u h = absurd (cc)
or_parts false u h = (refl, h)

-- whether `*/` begins in the last byte of a body depends on no later byte
no_end : (b : ℕ) (bs rest : List ℕ) → ends_comment (b ∷ bs) ≡ false → ends_comment (b ∷ bs ++ 42 ∷ 47 ∷ rest) ≡ false
no_end b [] rest h = h
no_end b (c ∷ bs) rest h = h

body_closed : (body rest : List ℕ) → has_comment_end body ≡ false → body_len (body ++ 42 ∷ 47 ∷ rest) ≡ Some (length body)
body_closed [] rest h = refl
body_closed (b ∷ bs) rest h =
    let p = or_parts (ends_comment (b ∷ bs)) (has_comment_end bs) h in
    rw (no_end b bs rest p.0) (ap further (body_closed bs rest p.1))

body_open : (text : List ℕ) → has_comment_end text ≡ false → body_len text ≡ None
body_open [] h = refl
body_open (b ∷ bs) h =
    let p = or_parts (ends_comment (b ∷ bs)) (has_comment_end bs) h in
    rw p.0 (ap further (body_open bs p.1))

pub comments : (place : Place) (body rest : List ℕ) → AreComments place body rest
comments place body rest h =
    (ap (λ o. comment_at o (length (body ++ 42 ∷ 47 ∷ rest))) (body_closed body rest h), ap (λ o. comment_at o (length body)) (body_open body h))
