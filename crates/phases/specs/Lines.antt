-- The token lines of a file: translation phase 3 of ISO/IEC 9899:2011 5.1.1.2.
use Rattle.std.specs.Prelude.{◌≡◌, ℕ, zero, suc, ◌-◌, ◌==◌, ◌&&◌, ◌||◌, nat_lt, Bool, true, false, if◌then◌else◌, Option, None, Some, Result, Ok, Err, List, [], ◌∷◌, ◌++◌, length, take, drop, slice_index, codes, bytes_eq}
use Rattle.std.specs.Str.{byte}
use Rattle.srcset.specs.declared.code.Code.{Code}
use Rattle.srcset.specs.declared.code.Code.TheVariants.{NoFinalNewline, FinalSplice, OpenComment, TokenLengthLimit}
use Rattle.srcset.specs.declared.refusal.Pos.{Pos}
use Rattle.srcset.specs.declared.refusal.Refusal.{Refusal}
use Rattle.srcset.specs.declared.refusal.Refusal.TheVariants.{At}
use Rattle.phases.specs.declared.token.Kind.{Kind}
use Rattle.phases.specs.declared.token.Kind.TheVariants.{Other}
use Rattle.phases.specs.declared.token.Place.{Place}
use Rattle.phases.specs.declared.token.Place.TheVariants.{Start, AfterHash, AfterInclude, Elsewhere}
use Rattle.phases.specs.declared.token.Piece.{Piece}
use Rattle.phases.specs.declared.token.Piece.TheVariants.{Newline, Gap, Unclosed, Word}
use Rattle.phases.specs.Token.{Token}
use Rattle.phases.specs.Text.{Char, phase1, logical, bytes_of, last_line, ends_open, ends_spliced}
use Rattle.phases.specs.Characters.{newline, is_white}
use Rattle.phases.specs.Grammar.{longest_token}

-- up to the end of the line
abbrev pub line_len : List ℕ → ℕ
line_len [] = 0
line_len (b ∷ bs) = if b == newline then 0 else suc (line_len bs)

-- `*/` comes first
abbrev pub ends_comment : List ℕ → Bool
ends_comment [] = false
ends_comment (b ∷ bs) = (b == byte "*") && (slice_index bs 0 == byte "/")

-- `*/` occurs somewhere in the text
abbrev pub has_comment_end : List ℕ → Bool
has_comment_end [] = false
has_comment_end (b ∷ bs) = ends_comment (b ∷ bs) || has_comment_end bs

abbrev pub further : Option ℕ → Option ℕ
further None = None
further (Some n) = Some (suc n)

-- the number of characters before the first `*/`, if there is one
abbrev pub body_len : List ℕ → Option ℕ
body_len [] = None
body_len (b ∷ bs) = if ends_comment (b ∷ bs) then Some 0 else further (body_len bs)

-- a comment that is closed is `/*`, a body without `*/`, and `*/`; one that is not takes all (6.4.9p1)
abbrev pub comment_at : Option ℕ → ℕ → Piece × ℕ
comment_at (Some body) rest = (Gap, suc (suc (suc (suc body))))
comment_at None rest = (Unclosed, suc (suc rest))

abbrev pub word_piece : Kind × ℕ → Piece × ℕ
word_piece t = (Word t.0, t.1)

-- a slash and this byte
abbrev pub opens : ℕ → ℕ → List ℕ → Bool
opens second b bs = (b == byte "/") && (slice_index bs 0 == second)

-- the piece at the front of a text, by its first byte and the rest, and its length
abbrev pub piece_at : Place → ℕ → List ℕ → Piece × ℕ
piece_at place b bs =
    if b == newline then (Newline, 1)
    else if is_white b then (Gap, 1)
    else if opens (byte "/") b bs then (Gap, suc (line_len bs))
    else if opens (byte "*") b bs then comment_at (body_len (drop 1 bs)) (length (drop 1 bs))
    else word_piece (longest_token place (b ∷ bs))

-- a body without `*/` is closed by the next `*/`; a text without one is not closed
abbrev pub AreComments : Place → List ℕ → List ℕ → Type 0
AreComments place body rest =
    has_comment_end body ≡ false
    → (piece_at place (byte "/") (byte "*" ∷ body ++ byte "*" ∷ byte "/" ∷ rest) ≡ (Gap, suc (suc (suc (suc (length body))))))
    × (piece_at place (byte "/") (byte "*" ∷ body) ≡ (Unclosed, suc (suc (length body))))

-- the place of the next token
abbrev pub after_first : List ℕ → Place
after_first s = if bytes_eq s (codes "#") || bytes_eq s (codes "%:") then AfterHash else Elsewhere

abbrev pub after_hash : List ℕ → Place
after_hash s = if bytes_eq s (codes "include") then AfterInclude else Elsewhere

abbrev pub next_place : Place → List ℕ → Place
next_place Start s = after_first s
next_place AfterHash s = after_hash s
next_place AfterInclude s = Elsewhere
next_place Elsewhere s = Elsewhere

abbrev pub place_after : Piece → Place → List ℕ → Place
place_after Newline place s = Start
place_after Gap place s = place
place_after Unclosed place s = place
place_after (Word k) place s = next_place place s

-- whether the next token has white space before it
abbrev pub space_after : Piece → Bool
space_after Newline = false
space_after Gap = true
space_after Unclosed = true
space_after (Word k) = false

-- lines, the first token that is too long, and the comment that is not closed
pub record Found : Type 0 where
  pub lines : List (List Token)
  pub overlong : Option Pos
  pub unclosed : Option Pos

abbrev pub nothing : Found
nothing = record { lines = []; overlong = None; unclosed = None }

-- these tokens in front of the first line
abbrev pub before : List Token → List (List Token) → List (List Token)
before [] ls = ls
before (x ∷ xs) [] = (x ∷ xs) ∷ []
before (x ∷ xs) (l ∷ ls) = ((x ∷ xs) ++ l) ∷ ls

abbrev pub first_overlong : Token → Option Pos → Option Pos
first_overlong x other = if nat_lt 4095 (length x.spelling) then Some x.pos else other

abbrev pub with_piece : Piece → Token → Found → Found
with_piece Newline x f = record f { lines = [] ∷ f.lines }
with_piece Gap x f = f
with_piece Unclosed x f = record f { unclosed = Some x.pos }
with_piece (Word k) x f = record { lines = before (x ∷ []) f.lines; overlong = first_overlong x f.overlong; unclosed = f.unclosed }

abbrev pub kind_of : Piece → Kind
kind_of (Word k) = k
kind_of _ = Other

-- the contents of a text; its first `skip` characters belong to the piece before
unfoldable pub found : ℕ → ℕ → Place → Bool → List Char → Found
found file skip place space [] = nothing
found file (suc k) place space (c ∷ cs) = found file k place space cs
found file zero place space (c ∷ cs) =
    let piece = piece_at place c.byte (bytes_of cs) in
    let text = take piece.1 (bytes_of (c ∷ cs)) in
    with_piece piece.0
    (record { kind = kind_of piece.0; spelling = text; space_before = space; pos = record { file = file; line = c.line } })
    (found file (piece.1 - 1) (place_after piece.0 place text) (space_after piece.0) cs)

abbrev pub fault_or : Code → Option Pos → Result (List (List Token)) Refusal → Result (List (List Token)) Refusal
fault_or code None r = r
fault_or code (Some p) r = Err (At code p)

-- the fault of an end that is no end of a line, or of a splice
abbrev pub at_end : Bool → Bool → ℕ → ℕ → Result (List (List Token)) Refusal → Result (List (List Token)) Refusal
at_end true spliced file line r = Err (At NoFinalNewline (record { file = file; line = line }))
at_end false true file line r = Err (At FinalSplice (record { file = file; line = line }))
at_end false false file line r = r

abbrev pub lines_or_fault : Found → Result (List (List Token)) Refusal
lines_or_fault f = fault_or OpenComment f.unclosed (fault_or TokenLengthLimit f.overlong (Ok f.lines))

-- the token lines of a file, or its fault with the lowest code
abbrev pub scanned : ℕ → List ℕ → Result (List (List Token)) Refusal
scanned file bytes =
    at_end (ends_open (phase1 0 1 bytes)) (ends_spliced (phase1 0 1 bytes)) file (last_line bytes) (lines_or_fault (found file 0 Start false (logical 1 bytes)))
