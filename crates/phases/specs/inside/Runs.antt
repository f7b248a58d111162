-- Runs of plain bytes.
use Rattle.std.specs.Prelude.{◌≡◌, ℕ, suc, ◌+◌, ◌==◌, ◌&&◌, ◌||◌, Bool, true, not, if◌then◌else◌, List, [], ◌∷◌, ◌++◌, length}
use Rattle.phases.specs.declared.cursor.Cursor.{Cursor}
use Rattle.phases.specs.declared.cursor.Span.{Span}
use Rattle.phases.specs.declared.cursor.Step.{Step}
use Rattle.phases.specs.inside.Lexical.{is_white}
use Rattle.phases.specs.inside.Plain.{is_plain}
use Rattle.phases.specs.inside.Reading.{bytes_at, Spans}

-- the byte is the first character of each text that begins with it
abbrev pub is_sure : ℕ → Bool
is_sure b = is_plain b || (b == 10)

abbrev pub is_ordinary : ℕ → ℕ → Bool
is_ordinary stop b = is_plain b && not (b == stop)

abbrev pub ordinary_len : ℕ → List ℕ → ℕ
ordinary_len stop [] = 0
ordinary_len stop (b ∷ bs) = if is_ordinary stop b then suc (ordinary_len stop bs) else 0

abbrev pub all_ordinary : ℕ → List ℕ → Bool
all_ordinary stop [] = true
all_ordinary stop (b ∷ bs) = is_ordinary stop b && all_ordinary stop bs

abbrev pub all_white : List ℕ → Bool
all_white [] = true
all_white (b ∷ bs) = is_white b && all_white bs

abbrev pub white_len : List ℕ → ℕ
white_len [] = 0
white_len (b ∷ bs) = if is_white b then suc (white_len bs) else 0

abbrev pub next_line : ℕ → ℕ → ℕ
next_line b line = if b == 10 then line + 1 else line

-- the step reads one sure byte
pub record IsSureStep (from : Cursor) (s : Step) : Type 0 where
  pub is_sure_byte : is_sure s.byte ≡ true
  pub rest_is : from.rest.now ≡ s.byte ∷ s.next.rest.now
  pub line_is : s.line ≡ from.line
  pub next_line_is : s.next.line ≡ next_line s.byte from.line

-- plain bytes with no `stop` among them lie between these places
pub record IsRun (from : Cursor) (stop : ℕ) (s : Span) : Type 0 where
  pub front : List ℕ
  pub ordinary : all_ordinary stop front ≡ true
  pub count_is : length front ≡ s.count
  pub bytes_is : bytes_at from ≡ front ++ bytes_at s.after
  pub spans : Spans from s.count s.after

-- white space on one line lies between these places
pub record IsWhiteRun (from : Cursor) (s : Span) : Type 0 where
  pub front : List ℕ
  pub white : all_white front ≡ true
  pub count_is : length front ≡ s.count
  pub rest_is : from.rest.now ≡ front ++ s.after.rest.now
  pub line_is : s.after.line ≡ from.line
