-- Numbers that may be past the last word, by their digits to the base 2^64, the lowest first.
use Rattle.std.specs.Prelude.{ℕ, ◌+◌, ◌*◌, ◌^◌, List, [], ◌∷◌}

abbrev pub number_of : List ℕ → ℕ
number_of [] = 0
number_of (d ∷ digits) = d + 2 ^ 64 * number_of digits
