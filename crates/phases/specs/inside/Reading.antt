-- Postconditions of reading a text character by character.
use Rattle.std.specs.Prelude.{◌≡◌, ℕ, ◌+◌, ◌≤◌, ◌<◌, false, List, [], ◌∷◌, ◌++◌, length}
use Rattle.phases.specs.declared.cursor.Cursor.{Cursor}
use Rattle.phases.specs.declared.cursor.Step.{Step}
use Rattle.phases.specs.Text.{Char, phase1, logical, bytes_of, is_splice}

-- the text from here on, after phase 1 alone and after both
abbrev pub mapped_at : Cursor → List Char
mapped_at c = phase1 0 c.line c.rest.now

abbrev pub text_at : Cursor → List Char
text_at c = logical c.line c.rest.now

abbrev pub bytes_at : Cursor → List ℕ
bytes_at c = bytes_of (text_at c)

abbrev pub char_of : Step → Char
char_of s = record { byte = s.byte; line = s.line }

-- the step reads the first character of phase 1
pub record MapsTo (from : Cursor) (s : Step) : Type 0 where
  pub text_is : mapped_at from ≡ char_of s ∷ mapped_at s.next
  pub least : length s.next.rest.now + 1 ≤ length from.rest.now
  pub plain : length from.rest.now ≡ length s.next.rest.now + 1 → from.rest.now ≡ s.byte ∷ s.next.rest.now

-- splices alone lie between these places
pub record Skips (from : Cursor) (to : Cursor) : Type 0 where
  pub text_is : text_at from ≡ text_at to
  pub least : length to.rest.now ≤ length from.rest.now
  pub plain : length from.rest.now ≡ length to.rest.now → from.rest.now ≡ to.rest.now

-- no splice begins with this step
abbrev pub IsNoSplice : Step → Type 0
IsNoSplice s = is_splice (char_of s) (mapped_at s.next) ≡ false

-- no splice begins at this place
abbrev pub IsPastSplices : Cursor → Type 0
IsPastSplices c = (s : Step) → MapsTo c s → IsNoSplice s

-- the step is a backslash, and the line ends directly after it, before this place
pub record EndsSplice (s : Step) (to : Cursor) : Type 0 where
  pub is_backslash : s.byte ≡ 92
  pub line : ℕ
  pub text_is : mapped_at s.next ≡ record { byte = 10; line = line } ∷ mapped_at to
  pub least : length to.rest.now < length s.next.rest.now

-- these characters lie between these places; where each takes one byte, they are the bytes
pub record Reads (from : Cursor) (front : List Char) (to : Cursor) : Type 0 where
  pub text_is : text_at from ≡ front ++ text_at to
  pub least : length front + length to.rest.now ≤ length from.rest.now
  pub plain : length from.rest.now ≡ length front + length to.rest.now → from.rest.now ≡ bytes_of front ++ to.rest.now

-- the step reads the first character
abbrev pub IsStep : Cursor → Step → Type 0
IsStep from s = Reads from (char_of s ∷ []) s.next

-- `n` characters lie between these places
pub record Spans (from : Cursor) (n : ℕ) (to : Cursor) : Type 0 where
  pub front : List Char
  pub count : length front ≡ n
  pub reads : Reads from front to
