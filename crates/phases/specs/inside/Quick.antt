-- Pieces that the raw bytes alone determine.
use Rattle.std.specs.Prelude.{ℕ, ◌==◌, ◌&&◌, ◌||◌, Bool}
use Rattle.phases.specs.inside.Lexical.{is_digit}

abbrev pub is_quote : ℕ → Bool
is_quote b = (b == 34) || (b == 39)

-- these two may begin a comment, a number or a punctuator of more than two characters
abbrev pub is_opening : ℕ → Bool
is_opening a = (a == 46) || (a == 47) || (a == 37) || (a == 60) || (a == 62)

abbrev pub is_further : ℕ → Bool
is_further b = (b == 46) || (b == 47) || (b == 42) || (b == 60) || (b == 62) || (b == 58) || is_digit b

abbrev pub may_go_on : ℕ → ℕ → Bool
may_go_on a b = is_opening a && is_further b

-- some punctuator has this as its second character
abbrev pub is_second : ℕ → Bool
is_second b = (b == 62) || (b == 45) || (b == 61) || (b == 43) || (b == 38) || (b == 124) || (b == 60) || (b == 58) || (b == 37) || (b == 35)
