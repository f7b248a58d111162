-- Bytes that denote themselves.
use Rattle.std.specs.Prelude.{ℕ, ◌==◌, ◌||◌, Bool, not}

-- no part of a trigraph, a splice or the end of a line begins with this byte
abbrev pub is_plain : ℕ → Bool
is_plain b = not ((b == 63) || (b == 92) || (b == 13) || (b == 10))
