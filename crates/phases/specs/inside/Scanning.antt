-- The progress of a scan of a file.
use Rattle.std.specs.Prelude.{◌≡◌, ℕ, ◌||◌, nat_lt, false, Option, None, Some, List, [], ◌∷◌, ◌++◌, take}
use Rattle.srcset.specs.declared.refusal.Pos.{Pos}
use Rattle.phases.specs.declared.cursor.Cursor.{Cursor}
use Rattle.phases.specs.declared.cursor.Step.{Step}
use Rattle.phases.specs.declared.cursor.Span.{Span}
use Rattle.phases.specs.declared.cursor.Front.{Front}
use Rattle.phases.specs.declared.token.Kind.{Kind}
use Rattle.phases.specs.declared.token.Place.TheVariants.{Start}
use Rattle.phases.specs.declared.scanner.Scanner.{Scanner}
use Rattle.phases.specs.Token.{Token}
use Rattle.phases.specs.Lines.{Found, found, before, with_piece, kind_of, next_place, first_overlong, place_after, space_after}
use Rattle.phases.specs.inside.Reading.{text_at, bytes_at, Spans}

abbrev pub or_later : Option Pos → Option Pos → Option Pos
or_later None p = p
or_later (Some q) p = Some q

-- the contents of a file, by the part already scanned and the contents of the rest
abbrev pub whole : Scanner → Found → Found
whole s f =
    record { lines = s.list.lines ++ before s.list.line f.lines; overlong = or_later s.overlong f.overlong; unclosed = or_later s.unclosed f.unclosed }

-- the token of a word at this place
abbrev pub token_at : Scanner → Cursor → Step → Front → Token
token_at s at first front =
    record { kind = kind_of front.piece; spelling = take front.span.count (bytes_at at); space_before = s.space; pos = record { file = s.file; line = first.line } }

-- nothing is scanned
pub record IsNew (file : ℕ) (s : Scanner) : Type 0 where
  pub file_is : s.file ≡ file
  pub lines_is : s.list.lines ≡ []
  pub line_is : s.list.line ≡ []
  pub place_is : s.place ≡ Start
  pub space_is : s.space ≡ false
  pub overlong_is : s.overlong ≡ None
  pub unclosed_is : s.unclosed ≡ None

-- the line has ended
pub record EndsLine (old : Scanner) (new : Scanner) : Type 0 where
  pub file_is : new.file ≡ old.file
  pub lines_is : new.list.lines ≡ old.list.lines ++ old.list.line ∷ []
  pub line_is : new.list.line ≡ []
  pub place_is : new.place ≡ Start
  pub space_is : new.space ≡ false
  pub overlong_is : new.overlong ≡ old.overlong
  pub unclosed_is : new.unclosed ≡ old.unclosed

abbrev pub word_at : Scanner → Kind → List ℕ → ℕ → Token
word_at s kind spelling line =
    record { kind = kind; spelling = spelling; space_before = s.space; pos = record { file = s.file; line = line } }

-- a token with this kind and spelling, on this line, is appended
pub record AddsWord (old : Scanner) (new : Scanner) (kind : Kind) (spelling : List ℕ) (line : ℕ) : Type 0 where
  pub file_is : new.file ≡ old.file
  pub lines_is : new.list.lines ≡ old.list.lines
  pub line_is : new.list.line ≡ old.list.line ++ word_at old kind spelling line ∷ []
  pub place_is : new.place ≡ next_place old.place spelling
  pub space_is : new.space ≡ false
  pub overlong_is : new.overlong ≡ or_later old.overlong (first_overlong (word_at old kind spelling line) None)
  pub unclosed_is : new.unclosed ≡ old.unclosed

-- `count` characters of white space are passed
pub record PassesWhite (old : Scanner) (new : Scanner) (count : ℕ) : Type 0 where
  pub file_is : new.file ≡ old.file
  pub lines_is : new.list.lines ≡ old.list.lines
  pub line_is : new.list.line ≡ old.list.line
  pub place_is : new.place ≡ old.place
  pub space_is : new.space ≡ (old.space || nat_lt 0 count)
  pub overlong_is : new.overlong ≡ old.overlong
  pub unclosed_is : new.unclosed ≡ old.unclosed

-- the piece is scanned
pub record Puts (old : Scanner) (new : Scanner) (at : Cursor) (first : Step) (front : Front) : Type 0 where
  pub whole_is : (f : Found) → whole new f ≡ whole old (with_piece front.piece (token_at old at first front) f)
  pub place_is : new.place ≡ place_after front.piece old.place (take front.span.count (bytes_at at))
  pub space_is : new.space ≡ space_after front.piece
  pub file_is : new.file ≡ old.file

-- the characters from here on through the end of `s` are scanned
pub record Goes (old : Scanner) (new : Scanner) (from : Cursor) (s : Span) : Type 0 where
  pub spans : Spans from s.count s.after
  pub file_is : new.file ≡ old.file
  pub whole_is : whole old (found old.file 0 old.place old.space (text_at from)) ≡ whole new (found old.file 0 new.place new.space (text_at s.after))
