-- The contents of a caller's buffer after a call.
use Rattle.std.specs.Prelude.{◌≡◌, ℕ, List, ◌++◌, length, take, drop}

-- a buffer before a call and after it, and the length that the call reports
pub record Buffer : Type 0 where
  pub before : List ℕ
  pub after : List ℕ
  pub told : ℕ

-- the buffer has the text as far as there is room, and after it its old contents; and the length of the text is reported: a buffer
-- of fewer bytes was too small, and one of at least that size is large enough
pub record Got (buffer : Buffer) (text : List ℕ) : Type 0 where
  pub told_is : buffer.told ≡ length text
  pub bytes_are : buffer.after ≡ take (length buffer.before) text ++ drop (length text) buffer.before

-- such an output and such a line were given
pub record HandsOut (P : List ℕ → List ℕ → Type 0) (out message : Buffer) : Type 0 where
  pub output : List ℕ
  pub line : List ℕ
  pub meets : P output line
  pub output_got : Got out output
  pub line_got : Got message line
