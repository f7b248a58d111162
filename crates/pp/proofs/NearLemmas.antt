-- A file of at most 1,048,576 bytes has no token behind line 1,048,577.
use Rattle.std.proofs.Common.{◌≡◌, ◌≤◌, ◌+◌, ◌-◌, ℕ, zero, suc, List, [], ◌∷◌, length, Bool, true, false, Option, Some, None, Result, Ok, Err, arith, take, sym, subst}
use Rattle.std.specs.Prelude.{All, IfSome, if◌then◌else◌, option_map, slice_get, ◌==◌}
use Rattle.std.specs.Borrow.{Bor}
use Rattle.srcset.specs.declared.code.Code.{Code}
use Rattle.srcset.specs.declared.code.Code.TheVariants as code
use Rattle.srcset.specs.declared.refusal.Pos.{Pos}
use Rattle.srcset.specs.declared.refusal.Refusal.{Refusal}
use Rattle.phases.specs.declared.token.Piece.{Piece}
use Rattle.phases.specs.declared.token.Piece.TheVariants.{Newline, Gap, Unclosed, Word}
use Rattle.phases.specs.declared.token.Place.{Place}
use Rattle.phases.specs.declared.token.Place.TheVariants.{Start}
use Rattle.phases.specs.Characters.{newline}
use Rattle.phases.specs.Token.{Token}
use Rattle.phases.specs.Text.{Char, trigraph_at, is_return, mapped, mapped_or, phase1, is_splice, unless, phase2, logical, bytes_of, last_line, ends_open, ends_spliced}
use Rattle.phases.specs.Lines.{Found, piece_at, place_after, space_after, kind_of, before, with_piece, found, fault_or, at_end, lines_or_fault, scanned}
use Rattle.pp.specs.Groups.{place_of}
use Rattle.pp.specs.inside.Stepping.{IsNear}

abbrev CharsWithin : ℕ → List Char → Type 0
CharsWithin m [] = Unit {0}
CharsWithin m (c ∷ cs) = (c.line ≤ m) × CharsWithin m cs

abbrev TokensWithin : ℕ → List Token → Type 0
TokensWithin m [] = Unit {0}
TokensWithin m (x ∷ xs) = (x.pos.line ≤ m) × TokensWithin m xs

abbrev LinesWithin : ℕ → List (List Token) → Type 0
LinesWithin m [] = Unit {0}
LinesWithin m (l ∷ ls) = TokensWithin m l × LinesWithin m ls

-- ---- phases 1 and 2

next_within : (t : Bool) (line : ℕ) → (if t then line + 1 else line) ≤ line + 1
next_within true line = omega arith
next_within false line = omega arith

mapped_within : (o : Option ℕ) (a : ℕ) (b : Bool) (line : ℕ) → (mapped_or o a b line).line ≤ line + 1
mapped_within (Some x) a b line = omega arith
mapped_within None a true line = omega arith
mapped_within None a false line = next_within (a == newline) line

phase1_within : (skip line m : ℕ) (bs : List ℕ) → line + length bs ≤ m → CharsWithin m (phase1 skip line bs)
phase1_within skip line m [] h = tt
phase1_within (suc k) line m (a ∷ bs) h = phase1_within k line m bs (omega (arith, h))
phase1_within zero line m (a ∷ bs) h =
    let q = mapped_within (trigraph_at a bs) a (is_return a bs) line in
    (omega (arith, h), phase1_within (mapped a bs line).more (mapped a bs line).line m bs (omega (arith, h, q)))

unless_within : (t : Bool) (m : ℕ) (c : Char) (cs : List Char) → c.line ≤ m → CharsWithin m cs → CharsWithin m (unless t c cs)
unless_within true m c cs p h = h
unless_within false m c cs p h = (p, h)

phase2_within : (skip m : ℕ) (cs : List Char) → CharsWithin m cs → CharsWithin m (phase2 skip cs)
phase2_within skip m [] h = tt
phase2_within (suc k) m (c ∷ cs) h = phase2_within k m cs h.1
phase2_within zero m (c ∷ cs) h =
    let k = if is_splice c cs then 1 else 0 in unless_within (is_splice c cs) m c (phase2 k cs) h.0 (phase2_within k m cs h.1)

logical_within : (line m : ℕ) (bs : List ℕ) → line + length bs ≤ m → CharsWithin m (logical line bs)
unfolding logical
logical_within line m bs h = phase2_within 0 m (phase1 0 line bs) (phase1_within 0 line m bs h)

-- ---- phase 3

before_within : (m : ℕ) (x : Token) (ls : List (List Token)) → x.pos.line ≤ m → LinesWithin m ls → LinesWithin m (before (x ∷ []) ls)
before_within m x [] p h = ((p, tt), tt)
before_within m x (l ∷ ls) p h = ((p, h.0), h.1)

piece_within : (p : Piece) (m : ℕ) (x : Token) (f : Found) → x.pos.line ≤ m → LinesWithin m f.lines → LinesWithin m (with_piece p x f).lines
piece_within Newline m x f p h = (tt, h)
piece_within Gap m x f p h = h
piece_within Unclosed m x f p h = h
piece_within (Word k) m x f p h = before_within m x f.lines p h

found_within : (file skip : ℕ) (place : Place) (space : Bool) (m : ℕ) (cs : List Char) → CharsWithin m cs → LinesWithin m (found file skip place space cs).lines
unfolding found
found_within file skip place space m [] h = tt
found_within file (suc k) place space m (c ∷ cs) h = found_within file k place space m cs h.1
found_within file zero place space m (c ∷ cs) h =
    let piece = piece_at place c.byte (bytes_of cs) in
    let text = take piece.1 (bytes_of (c ∷ cs)) in
    piece_within piece.0 m (record { kind = kind_of piece.0; spelling = text; space_before = space; pos = record { file = file; line = c.line } })
    (found file (piece.1 - 1) (place_after piece.0 place text) (space_after piece.0) cs) h.0
    (found_within file (piece.1 - 1) (place_after piece.0 place text) (space_after piece.0) m cs h.1)

abbrev ResultWithin : ℕ → Result (List (List Token)) Refusal → Type 0
ResultWithin m (Ok ls) = LinesWithin m ls
ResultWithin m (Err r) = Unit {0}

end_within : (open' spliced : Bool) (m file line : ℕ) (r : Result (List (List Token)) Refusal) → ResultWithin m r → ResultWithin m (at_end open' spliced file line r)
end_within true spliced m file line r h = tt
end_within false true m file line r h = tt
end_within false false m file line r h = h

fault_within : (m : ℕ) (c : Code) (o : Option Pos) (r : Result (List (List Token)) Refusal) → ResultWithin m r → ResultWithin m (fault_or c o r)
fault_within m c None r h = h
fault_within m c (Some p) r h = tt

-- ---- a file

scanned_within : (file : ℕ) (bytes : List ℕ) (ls : List (List Token)) → scanned file bytes ≡ Ok ls → length bytes ≤ 1048576 → LinesWithin 1048577 ls
scanned_within file bytes ls e h =
    let f = found file 0 Start false (logical 1 bytes) in
    let lines = found_within file 0 Start false 1048577 (logical 1 bytes) (logical_within 1 1048577 bytes (omega (arith, h))) in
    let long = fault_within 1048577 code.TokenLengthLimit f.overlong (Ok f.lines) lines in
    let all = fault_within 1048577 code.OpenComment f.unclosed (fault_or code.TokenLengthLimit f.overlong (Ok f.lines)) long in
    subst (ResultWithin 1048577) e (end_within (ends_open (phase1 0 1 bytes)) (ends_spliced (phase1 0 1 bytes)) 1048577 file (last_line bytes) (lines_or_fault f) all)

line_within : (m : ℕ) (ls : List (List Token)) (i : ℕ) → LinesWithin m ls → IfSome (slice_get ls i) (TokensWithin m)
line_within m [] i h = tt
line_within m (l ∷ ls) zero h = h.0
line_within m (l ∷ ls) (suc i) h = line_within m ls i h.1

tokens_near : (xs : List Token) → TokensWithin 1048577 xs → All IsNear xs
tokens_near [] h k d lt = absurd (omega (arith, lt))
tokens_near (x ∷ xs) h zero d lt = h.0
tokens_near (x ∷ xs) h (suc k) d lt = tokens_near xs h.1 k d (omega (arith, lt))

some_near : (line : Option (Bor (List Token))) → IfSome (option_map (λ l. l.now) line) (TokensWithin 1048577) → IfSome line (λ l. All IsNear l.now)
some_near None h = tt
some_near (Some l) h = tokens_near l.now h

pub line_near : (file i : ℕ) (bytes : List ℕ) (ls : List (List Token)) (line : Option (Bor (List Token))) → scanned file bytes ≡ Ok ls → length bytes ≤ 1048576
    → option_map (λ l. l.now) line ≡ slice_get ls i → IfSome line (λ l. All IsNear l.now)
line_near file i bytes ls line e h is =
    some_near line (subst (λ o. IfSome o (TokensWithin 1048577)) (sym is) (line_within 1048577 ls i (scanned_within file bytes ls e h)))

-- the first token of a line
pub first_near : (at : Pos) (xs : List Token) → at ≡ place_of xs → All IsNear xs → at.line ≤ 1048577
first_near at [] e h = rw e (omega arith)
first_near at (x ∷ xs) e h = rw e (h 0 x (omega arith))
