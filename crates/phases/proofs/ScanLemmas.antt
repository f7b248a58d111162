-- Laws of scanning a file piece by piece.
use Rattle.std.proofs.Common.{◌≡◌, ℕ, zero, suc, ◌+◌, ◌-◌, ◌<◌, Bool, List, [], ◌∷◌, ◌++◌, ◌||◌, ltb, true, false, length, take, drop, refl, sym, ap, ◌∙◌, arith}
use Rattle.std.proofs.lemmas.Bool.{and_parts, or_right, lt-ltb}
use Rattle.std.proofs.lemmas.List.{drop_at}
use Rattle.phases.specs.declared.cursor.Cursor.{Cursor}
use Rattle.phases.specs.declared.cursor.Step.{Step}
use Rattle.phases.specs.declared.cursor.Front.{Front}
use Rattle.phases.specs.declared.scanner.Scanner.{Scanner}
use Rattle.phases.specs.declared.token.Place.{Place}
use Rattle.phases.specs.declared.token.Piece.{Piece}
use Rattle.phases.specs.declared.token.Piece.TheVariants.{Gap}
use Rattle.phases.specs.Text.{Char, logical, bytes_of}
use Rattle.phases.specs.inside.Lexical.{is_white}
use Rattle.phases.specs.Token.{Token}
use Rattle.phases.specs.Lines.{Found, found, piece_at, nothing, with_piece, kind_of, place_after, space_after}
use Rattle.phases.specs.inside.Pieces.{front}
use Rattle.phases.specs.inside.Reading.{text_at, bytes_at, char_of, IsStep, Spans}
use Rattle.phases.specs.inside.Fronts.{IsPiece}
use Rattle.phases.specs.inside.Scanning.{whole, token_at, Puts, PassesWhite, Goes}
use Rattle.phases.specs.inside.Runs.{all_white, IsSureStep, IsWhiteRun}
use Rattle.phases.proofs.TextLemmas.{plain_first}
use Rattle.phases.proofs.CommentLemmas.{piece_law}
use Rattle.phases.proofs.ReadingLemmas.{spans_none, spans_join}
use Rattle.phases.proofs.RunLemmas.{sure_step, exclude, run_spans, white_plain, white_all_plain}
use Rattle.phases.specs.declared.cursor.Span.{Span}

found_skip : (file k : ℕ) (place : Place) (space : Bool) (cs : List Char) → found file k place space cs ≡ found file 0 place space (drop k cs)
unfolding found
found_skip file zero place space cs = refl
found_skip file (suc k) place space [] = refl
found_skip file (suc k) place space (c ∷ cs) = found_skip file k place space cs

pub drop_pred : (n : ℕ) (c : Char) (cs : List Char) → 0 < n → drop (n - 1) cs ≡ drop n (c ∷ cs)
drop_pred zero c cs h = absurd (omega arith)
drop_pred (suc m) c cs h = let e : suc m - 1 ≡ m = omega arith in ap (λ k. drop k cs) e

-- the token that a piece of a text is
abbrev token_in : ℕ → Bool → ℕ → Piece → ℕ → List Char → Token
token_in file space line p n cs =
    record { kind = kind_of p; spelling = take n (bytes_of cs); space_before = space; pos = record { file = file; line = line } }

-- the contents of a text, by its first piece
abbrev by_piece : ℕ → Place → Bool → ℕ → Piece → ℕ → List Char → List Char → Found
by_piece file place space line p n cs rest =
    with_piece p (token_in file space line p n cs) (found file 0 (place_after p place (take n (bytes_of cs))) (space_after p) rest)

first_piece : (file : ℕ) (place : Place) (space : Bool) (c : Char) (cs : List Char) (p : Piece) (n : ℕ) → piece_at place c.byte (bytes_of cs) ≡ (p, n) → 0 < n → found file 0 place space (c ∷ cs) ≡ by_piece file place space c.line p n (c ∷ cs) (drop n (c ∷ cs))
unfolding found
first_piece file place space c cs p n e h =
    let G : Piece × ℕ → Found = λ x. with_piece x.0 (token_in file space c.line x.0 x.1 (c ∷ cs)) (found file (x.1 - 1) (place_after x.0 place (take x.1 (bytes_of (c ∷ cs)))) (space_after x.0) cs) in
    ap G e ∙ ap (λ f. with_piece p (token_in file space c.line p n (c ∷ cs)) f) (found_skip file (n - 1) (place_after p place (take n (bytes_of (c ∷ cs)))) (space_after p) cs ∙ ap (λ t. found file 0 (place_after p place (take n (bytes_of (c ∷ cs)))) (space_after p) t) (drop_pred n c cs h))

pub spans_drop_text : (a b : Cursor) (n : ℕ) → Spans a n b → drop n (text_at a) ≡ text_at b
spans_drop_text a b n p = ap (λ t. drop n t) p.reads.text_is ∙ drop_at p.front (text_at b) n p.count

found_step : (file : ℕ) (place : Place) (space : Bool) (a : Cursor) (s : Step) (x : Front) → IsStep a s → IsPiece a (front place s.byte (bytes_at s.next)) x → found file 0 place space (text_at a) ≡ by_piece file place space s.line x.piece x.span.count (text_at a) (text_at x.span.after)
found_step file place space a s x p q =
    let e = p.text_is in
    let t = front place s.byte (bytes_at s.next) in
    let g : piece_at place s.byte (bytes_at s.next) ≡ (x.piece, x.span.count) = piece_law place s.byte (bytes_at s.next) ∙ ap (λ k. (k, t.1)) (sym q.piece_is) ∙ ap (λ k. (x.piece, k)) (sym q.count_is) in
    ap (λ k. found file 0 place space k) e ∙ first_piece file place space (char_of s) (text_at s.next) x.piece x.span.count g q.some ∙ sym (ap (λ k. by_piece file place space s.line x.piece x.span.count k (drop x.span.count k)) e) ∙ ap (λ k. by_piece file place space s.line x.piece x.span.count (text_at a) k) (spans_drop_text a x.span.after x.span.count q.spans)

pub scan_step : (file : ℕ) (old new : Scanner) (total : Found) (a : Cursor) (s : Step) (x : Front) → old.file ≡ file → total ≡ whole old (found file 0 old.place old.space (text_at a)) → IsStep a s → IsPiece a (front old.place s.byte (bytes_at s.next)) x → Puts old new a s x → total ≡ whole new (found file 0 new.place new.space (text_at x.span.after))
scan_step file old new total a s x f t p q u =
    let rest : Found = found file 0 (place_after x.piece old.place (take x.span.count (bytes_at a))) (space_after x.piece) (text_at x.span.after) in
    let e1 : whole old (found file 0 old.place old.space (text_at a)) ≡ whole old (by_piece file old.place old.space s.line x.piece x.span.count (text_at a) (text_at x.span.after)) = ap (λ k. whole old k) (found_step file old.place old.space a s x p q) in
    let e2 : whole old (by_piece file old.place old.space s.line x.piece x.span.count (text_at a) (text_at x.span.after)) ≡ whole old (with_piece x.piece (token_at old a s x) rest) = ap (λ k. whole old (with_piece x.piece (token_in k old.space s.line x.piece x.span.count (text_at a)) rest)) (sym f) in
    let e3 : rest ≡ found file 0 new.place new.space (text_at x.span.after) = sym (ap (λ k. found file 0 k new.space (text_at x.span.after)) u.place_is ∙ ap (λ k. found file 0 (place_after x.piece old.place (take x.span.count (bytes_at a))) k (text_at x.span.after)) u.space_is) in
    t ∙ e1 ∙ e2 ∙ sym (u.whole_is rest) ∙ ap (λ k. whole new k) e3

pub scan_end : (file : ℕ) (s : Scanner) (total : Found) (a : Cursor) → total ≡ whole s (found file 0 s.place s.space (text_at a)) → text_at a ≡ [] → total ≡ whole s nothing
unfolding found
scan_end file s total a t e = t ∙ ap (λ k. whole s (found file 0 s.place s.space k)) e

pub goes_none : (s : Scanner) (a : Cursor) → Goes s s a (record { count = 0; after = a })
goes_none s a = record { spans = spans_none a; file_is = refl; whole_is = refl }

pub goes_more : (old mid new : Scanner) (a b : Cursor) (s : Step) (x : Front) (n : ℕ) → Goes old mid a (record { count = n; after = b }) → IsSureStep b s → IsPiece b (front mid.place s.byte (bytes_at s.next)) x → Puts mid new b s x → Goes old new a (record { count = n + x.span.count; after = x.span.after })
goes_more old mid new a b s x n g p q u =
    record {
      spans = spans_join a b x.span.after n x.span.count g.spans q.spans;
      file_is = u.file_is ∙ g.file_is;
      whole_is = scan_step old.file mid new (whole old (found old.file 0 old.place old.space (text_at a))) b s x g.file_is g.whole_is (sure_step b s p) q u;
    }

pub goes_after : (file : ℕ) (old new : Scanner) (total : Found) (a : Cursor) (s : Span) → old.file ≡ file → total ≡ whole old (found file 0 old.place old.space (text_at a)) → Goes old new a s → total ≡ whole new (found file 0 new.place new.space (text_at s.after))
goes_after file old new total a s f t g =
    t ∙ ap (λ k. whole old (found k 0 old.place old.space (text_at a))) (sym f) ∙ g.whole_is ∙ ap (λ k. whole new (found k 0 new.place new.space (text_at s.after))) f

or_none : (t : Bool) → (t || false) ≡ t
or_none true = refl
or_none false = refl

-- white space is gaps
white_found : (file : ℕ) (place : Place) (space : Bool) (l : ℕ) (f q : List ℕ) → all_white f ≡ true → found file 0 place space (logical l (f ++ q)) ≡ found file 0 place (space || ltb 0 (length f)) (logical l q)
white_found file place space l [] q h = ap (λ k. found file 0 place k (logical l q)) (sym (or_none space))
white_found file place space l (b ∷ f) q h =
    let p = and_parts (is_white b) (all_white f) h in
    let e : logical l (b ∷ f ++ q) ≡ record { byte = b; line = l } ∷ logical l (f ++ q) = plain_first l b (f ++ q) (white_plain b p.0) in
    let g : piece_at place b (bytes_of (logical l (f ++ q))) ≡ (Gap, 1) = rw (exclude b 10 is_white p.0 refl, p.0) refl in
    let one : found file 0 place space (logical l (b ∷ f ++ q)) ≡ found file 0 place true (logical l (f ++ q)) = ap (λ k. found file 0 place space k) e ∙ first_piece file place space (record { byte = b; line = l }) (logical l (f ++ q)) Gap 1 g (omega arith) in
    let some : (space || ltb 0 (length (b ∷ f))) ≡ true = or_right space (ltb 0 (length (b ∷ f))) (lt-ltb 0 (suc (length f)) (omega arith)) in
    one ∙ white_found file place true l f q p.1 ∙ ap (λ k. found file 0 place k (logical l q)) (sym some)

same_whole : (old new : Scanner) (n : ℕ) (f : Found) → PassesWhite old new n → whole new f ≡ whole old f
same_whole old new n f p = rw (p.lines_is, p.line_is, p.overlong_is, p.unclosed_is) refl

pub goes_white : (old mid new : Scanner) (a b : Cursor) (n : ℕ) (s : Span) → Goes old mid a (record { count = n; after = b }) → IsWhiteRun b s → PassesWhite mid new s.count → Goes old new a (record { count = n + s.count; after = s.after })
goes_white old mid new a b n s g w p =
    let t : found old.file 0 mid.place mid.space (text_at b) ≡ found old.file 0 new.place new.space (text_at s.after) =
    ap (λ k. found old.file 0 mid.place mid.space (logical b.line k)) w.rest_is
    ∙ white_found old.file mid.place mid.space b.line w.front s.after.rest.now w.white
    ∙ rw (p.place_is, p.space_is, w.line_is, w.count_is) refl in
    record {
      spans = spans_join a b s.after n s.count g.spans (run_spans b s.after w.front s.count (white_all_plain w.front w.white) w.rest_is w.line_is w.count_is);
      file_is = p.file_is ∙ g.file_is;
      whole_is = g.whole_is ∙ ap (whole mid) t ∙ sym (same_whole mid new s.count (found old.file 0 new.place new.space (text_at s.after)) p);
    }
