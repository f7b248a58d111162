-- The progress of a loop over the characters of a text.
use Rattle.std.specs.Prelude.{◌≡◌, ℕ, ◌+◌, Bool, Option, None, Some, List}
use Rattle.phases.specs.declared.cursor.Cursor.{Cursor}
use Rattle.phases.specs.inside.Reading.{Spans, Reads}
use Rattle.phases.specs.Text.{Char, bytes_of}

-- of `total` characters, `n` are read and `left` remain
pub record Along (from : Cursor) (total : ℕ) (n : ℕ) (at : Cursor) (left : ℕ) : Type 0 where
  pub spans : Spans from n at
  pub sum_is : total ≡ n + left

abbrev pub plus : ℕ → Option ℕ → Option ℕ
plus n None = None
plus n (Some m) = Some (n + m)

pub record AlongClose (from : Cursor) (total : Option ℕ) (n : ℕ) (at : Cursor) (left : Option ℕ) : Type 0 where
  pub spans : Spans from n at
  pub sum_is : total ≡ plus n left

abbrev pub longer : ℕ → Bool × ℕ → Bool × ℕ
longer n t = (t.0, n + t.1)

pub record AlongComment (from : Cursor) (total : Bool × ℕ) (n : ℕ) (at : Cursor) (left : Bool × ℕ) : Type 0 where
  pub spans : Spans from n at
  pub sum_is : total ≡ longer n left

-- the bytes of the characters between these places
pub record Copied (from : Cursor) (copy : List ℕ) (at : Cursor) : Type 0 where
  pub front : List Char
  pub copy_is : copy ≡ bytes_of front
  pub reads : Reads from front at
