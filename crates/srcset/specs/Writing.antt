-- The output of a call that writes many bytes.
use Rattle.std.specs.Prelude.{ℕ, ◌≤◌, List, Option, take, length}
use Rattle.std.specs.Io.KnownBytes.{Appends}

-- the writer accepted a prefix of the bytes
pub record TakesBeginning (before after : Option (List ℕ)) (bytes : List ℕ) : Type 0 where
  pub count : ℕ
  pub within : count ≤ length bytes
  pub taken : Appends before after (take count bytes)
