-- Laws of the lines on which token lines end.
use Rattle.std.proofs.Common.{◌≡◌, ℕ, zero, suc, ◌-◌, ◌<◌, List, [], ◌∷◌, ◌++◌, take, drop, refl, sym, ap, ◌∙◌}
use Rattle.phases.specs.declared.cursor.Cursor.{Cursor}
use Rattle.phases.specs.declared.cursor.Step.{Step}
use Rattle.phases.specs.declared.cursor.Front.{Front}
use Rattle.phases.specs.declared.token.Place.{Place}
use Rattle.phases.specs.declared.token.Piece.{Piece}
use Rattle.phases.specs.Text.{Char, bytes_of}
use Rattle.phases.specs.Lines.{piece_at, place_after}
use Rattle.phases.specs.LineEnds.{line_ends, with_end}
use Rattle.phases.specs.inside.Pieces.{front}
use Rattle.phases.specs.inside.Reading.{text_at, bytes_at, char_of, IsStep}
use Rattle.phases.specs.inside.Fronts.{IsPiece}
use Rattle.phases.proofs.CommentLemmas.{piece_law}
use Rattle.phases.proofs.ScanLemmas.{drop_pred, spans_drop_text}

ends_skip : (k : ℕ) (place : Place) (cs : List Char) → line_ends k place cs ≡ line_ends 0 place (drop k cs)
unfolding line_ends
ends_skip zero place cs = refl
ends_skip (suc k) place [] = refl
ends_skip (suc k) place (c ∷ cs) = ends_skip k place cs

-- the ends of a text, by its first piece
abbrev by_piece : Place → ℕ → Piece → ℕ → List Char → List Char → List ℕ
by_piece place line p n cs rest = with_end p line (line_ends 0 (place_after p place (take n (bytes_of cs))) rest)

first_piece : (place : Place) (c : Char) (cs : List Char) (p : Piece) (n : ℕ) → piece_at place c.byte (bytes_of cs) ≡ (p, n) → 0 < n → line_ends 0 place (c ∷ cs) ≡ by_piece place c.line p n (c ∷ cs) (drop n (c ∷ cs))
unfolding line_ends
first_piece place c cs p n e h =
    let G : Piece × ℕ → List ℕ = λ x. with_end x.0 c.line (line_ends (x.1 - 1) (place_after x.0 place (take x.1 (bytes_of (c ∷ cs)))) cs) in
    ap G e ∙ ap (λ f. with_end p c.line f) (ends_skip (n - 1) (place_after p place (take n (bytes_of (c ∷ cs)))) cs ∙ ap (λ t. line_ends 0 (place_after p place (take n (bytes_of (c ∷ cs)))) t) (drop_pred n c cs h))

pub ends_step : (place : Place) (a : Cursor) (s : Step) (x : Front) → IsStep a s → IsPiece a (front place s.byte (bytes_at s.next)) x → line_ends 0 place (text_at a) ≡ by_piece place s.line x.piece x.span.count (text_at a) (text_at x.span.after)
ends_step place a s x p q =
    let e = p.text_is in
    let t = front place s.byte (bytes_at s.next) in
    let g : piece_at place s.byte (bytes_at s.next) ≡ (x.piece, x.span.count) = piece_law place s.byte (bytes_at s.next) ∙ ap (λ k. (k, t.1)) (sym q.piece_is) ∙ ap (λ k. (x.piece, k)) (sym q.count_is) in
    ap (λ k. line_ends 0 place k) e ∙ first_piece place (char_of s) (text_at s.next) x.piece x.span.count g q.some ∙ sym (ap (λ k. by_piece place s.line x.piece x.span.count k (drop x.span.count k)) e) ∙ ap (λ k. by_piece place s.line x.piece x.span.count (text_at a) k) (spans_drop_text a x.span.after x.span.count q.spans)

pub ends_more : (total old new : List ℕ) (place next : Place) (a b : Cursor) (s : Step) (x : Front) → total ≡ old ++ line_ends 0 place (text_at a) → IsStep a s → IsPiece a (front place s.byte (bytes_at s.next)) x → ((rest : List ℕ) → new ++ rest ≡ old ++ with_end x.piece s.line rest) → next ≡ place_after x.piece place (take x.span.count (bytes_at a)) → text_at x.span.after ≡ text_at b → total ≡ new ++ line_ends 0 next (text_at b)
ends_more total old new place next a b s x t p q adds e skips =
    t ∙ ap (λ k. old ++ k) (ends_step place a s x p q)
    ∙ sym (adds (line_ends 0 (place_after x.piece place (take x.span.count (bytes_at a))) (text_at x.span.after)))
    ∙ ap (λ k. new ++ line_ends 0 k (text_at x.span.after)) (sym e)
    ∙ ap (λ k. new ++ line_ends 0 next k) skips

pub ends_done : (total ends : List ℕ) (place : Place) (a : Cursor) → total ≡ ends ++ line_ends 0 place (text_at a) → text_at a ≡ [] → total ≡ ends ++ []
unfolding line_ends
ends_done total ends place a t e = t ∙ ap (λ k. ends ++ line_ends 0 place k) e
