-- Laws of tokens and gaps.
use Rattle.std.proofs.Common.{◌≡◌, ℕ, suc, slice_index, ◌+◌, ◌<◌, eqb, Bool, true, false, cond, drop, refl, sym, ap, ◌∙◌, subst, arith}
use Rattle.std.proofs.lemmas.Bool.{ne_eqb, lt-ltb, lt-leb, and_parts, eqb-true}
use Rattle.phases.specs.Text.{bytes_of}
use Rattle.phases.specs.inside.Lexical.{is_white, character_len, string_len, name_len, number_len, punctuator_len, first_kind, plain_token, header_or}
use Rattle.phases.specs.inside.Pieces.{line_len, also, ends_comment, comment_len, comment_piece, opens, front}
use Rattle.phases.specs.declared.cursor.Cursor.{Cursor}
use Rattle.phases.specs.declared.cursor.Step.{Step}
use Rattle.phases.specs.declared.cursor.Span.{Span}
use Rattle.phases.specs.declared.cursor.Lexeme.{Lexeme}
use Rattle.phases.specs.declared.cursor.Comment.{Comment}
use Rattle.phases.specs.declared.token.Kind.{Kind}
use Rattle.phases.specs.declared.token.Kind.TheVariants.{Punctuator}
use Rattle.phases.specs.declared.token.Place.{Place}
use Rattle.phases.specs.declared.token.Piece.TheVariants.{Gap, Unclosed}
use Rattle.phases.specs.inside.Reading.{bytes_at, IsStep, Spans}
use Rattle.phases.specs.inside.Fronts.{IsFront, IsSomeFront, IsCommentFront, IsLexeme, IsPiece, IsAhead}
use Rattle.phases.specs.inside.Along.{AlongComment, longer}
use Rattle.phases.proofs.ReadingLemmas.{spans_join, spans_step}

pub line_step : (a : Cursor) (s : Step) → IsStep a s → (s.byte ≡ 10 → ⊥) → line_len (bytes_at a) ≡ suc (line_len (bytes_at s.next))
line_step a s p n = ap (λ t. line_len (bytes_of t)) p.text_is ∙ rw (ne_eqb s.byte 10 n) refl

pub comment_step : (star : Bool) (a : Cursor) (s : Step) → IsStep a s → ends_comment star s.byte ≡ false → comment_len star (bytes_at a) ≡ also (comment_len (eqb s.byte 42) (bytes_at s.next))
comment_step star a s p n = ap (λ t. comment_len star (bytes_of t)) p.text_is ∙ rw n refl

pub comment_end : (star : Bool) (a : Cursor) (s : Step) → IsStep a s → ends_comment star s.byte ≡ true → comment_len star (bytes_at a) ≡ (true, 1)
comment_end star a s p n = ap (λ t. comment_len star (bytes_of t)) p.text_is ∙ rw n refl

longer_one : (n : ℕ) (t : Bool × ℕ) → longer n (also t) ≡ longer (n + 1) t
longer_one n t = let e : n + suc t.1 ≡ n + 1 + t.1 = omega arith in ap (λ k. (t.0, k)) e

pub comment_more : (a b : Cursor) (s : Step) (total left m : Bool × ℕ) (n : ℕ) → AlongComment a total n b left → IsStep b s → left ≡ also m → AlongComment a total (n + 1) s.next m
comment_more a b s total left m n p q e =
    record { spans = spans_join a b s.next n 1 p.spans (spans_step b s q); sum_is = p.sum_is ∙ ap (longer n) e ∙ longer_one n m }

longer_longer : (n k : ℕ) (t : Bool × ℕ) → longer n (longer k t) ≡ longer (n + k) t
longer_longer n k t = let e : n + (k + t.1) ≡ n + k + t.1 = omega arith in ap (λ j. (t.0, j)) e

-- one character, and a run after it
pub comment_far : (a b : Cursor) (s : Step) (r : Span) (total left m o : Bool × ℕ) (n : ℕ) → AlongComment a total n b left → IsStep b s → left ≡ also m → Spans s.next r.count r.after → m ≡ longer r.count o → AlongComment a total (n + (1 + r.count)) r.after o
comment_far a b s r total left m o n p q e u f =
    let x = comment_more a b s total left m n p q e in
    let y : n + 1 + r.count ≡ n + (1 + r.count) = omega arith in
    subst (λ k. AlongComment a total k r.after o) y (record { spans = spans_join a s.next r.after (n + 1) r.count x.spans u; sum_is = x.sum_is ∙ ap (longer (n + 1)) f ∙ longer_longer (n + 1) r.count o })

pub comment_closed : (a b : Cursor) (s : Step) (total left : Bool × ℕ) (n : ℕ) → AlongComment a total n b left → IsStep b s → left ≡ (true, 1) → IsCommentFront a total (record { closed = true; span = record { count = n + 1; after = s.next } })
comment_closed a b s total left n p q e =
    let t : total ≡ (true, n + 1) = p.sum_is ∙ ap (longer n) e in
    record { closed_is = sym (ap (λ x. x.0) t); count_is = sym (ap (λ x. x.1) t); spans = spans_join a b s.next n 1 p.spans (spans_step b s q) }

pub punctuator_lexeme : (a : Cursor) (s : Span) → character_len (bytes_at a) ≡ 0 → string_len (bytes_at a) ≡ 0 → name_len (bytes_at a) ≡ 0 → number_len (bytes_at a) ≡ 0 → IsSomeFront a (punctuator_len (bytes_at a)) s → IsLexeme a (plain_token (bytes_at a)) (record { kind = Punctuator; span = s })
punctuator_lexeme a s c t n d p =
    let x = character_len (bytes_at a) in
    let y = string_len (bytes_at a) in
    let z = name_len (bytes_at a) in
    let w = number_len (bytes_at a) in
    let q = punctuator_len (bytes_at a) in
    let r : first_kind 0 0 0 0 q ≡ (Punctuator, q) = rw (lt-ltb 0 q p.some) refl in
    let e : plain_token (bytes_at a) ≡ (Punctuator, q) = ap (λ k. first_kind k y z w q) c ∙ ap (λ k. first_kind 0 k z w q) t ∙ ap (λ k. first_kind 0 0 k w q) n ∙ ap (λ k. first_kind 0 0 0 k q) d ∙ r in
    record { kind_is = sym (ap (λ k. k.0) e); count_is = p.count_is ∙ sym (ap (λ k. k.1) e); spans = p.spans; some = omega (arith, p.count_is, p.some) }

header_none : (n : ℕ) (t : Kind × ℕ) → n ≡ 0 → 0 < t.1 → t ≡ header_or n t
header_none n t e h = rw (e, lt-leb t.1 0 h) refl

pub no_header : (a : Cursor) (n : ℕ) (t : Kind × ℕ) (x : Lexeme) → n ≡ 0 → IsLexeme a t x → IsLexeme a (header_or n t) x
no_header a n t x e p =
    let h : 0 < t.1 = omega (arith, p.count_is, p.some) in
    subst (λ k. IsLexeme a k x) (header_none n t e h) p

pub line_front : (a : Cursor) (place : Place) (s : Step) (t : Span) → IsStep a s → (s.byte ≡ 10 → ⊥) → is_white s.byte ≡ false → opens 47 s.byte (bytes_at s.next) ≡ true → IsFront s.next (line_len (bytes_at s.next)) t → IsPiece a (front place s.byte (bytes_at s.next)) (record { piece = Gap; span = record { count = 1 + t.count; after = t.after } })
line_front a place s t p n w o f =
    let e : front place s.byte (bytes_at s.next) ≡ (Gap, suc (line_len (bytes_at s.next))) = rw (ne_eqb s.byte 10 n, w, o) refl in
    record {
      piece_is = sym (ap (λ k. k.0) e);
      count_is = omega (arith, ap (λ k. k.1) e, f.count_is);
      spans = spans_join a s.next t.after 1 t.count (spans_step a s p) f.spans;
      some = omega arith;
    }

pub opened_front : (a : Cursor) (s t : Step) (x : Comment) (b : Bool) → IsStep a s → opens 42 s.byte (bytes_at s.next) ≡ true → IsAhead s.next t → IsCommentFront t.next (comment_len false (bytes_at t.next)) x → x.closed ≡ b → IsPiece a (comment_piece (comment_len false (drop 1 (bytes_at s.next)))) (record { piece = cond b Gap Unclosed; span = record { count = 2 + x.span.count; after = x.span.after } })
opened_front a s t x b p o q f h =
    let y = eqb-true (slice_index (bytes_at s.next) 0) 42 (and_parts (eqb s.byte 47) (eqb (slice_index (bytes_at s.next) 0) 42) o).1 in
    let n : t.byte ≡ 0 → ⊥ = λ e. omega (arith, y, q.byte_is) in
    let e : comment_len false (bytes_at t.next) ≡ comment_len false (drop 1 (bytes_at s.next)) = ap (comment_len false) q.rest_is in
    record {
      piece_is = ap (λ k. cond k Gap Unclosed) (sym h ∙ f.closed_is ∙ ap (λ k. k.0) e);
      count_is = omega (arith, f.count_is, ap (λ k. k.1) e);
      spans = spans_join a t.next x.span.after 2 x.span.count (spans_join a s.next t.next 1 1 (spans_step a s p) (spans_step s.next t (q.step n))) f.spans;
      some = omega arith;
    }
