-- One argument of a call.
use Rattle.std.specs.Prelude.{ℕ, Bool}
use Rattle.typed_ast.specs.View.{Given, number_given, array_given}
use Rattle.lower_correct.specs.Values.{calls, place_calls, writes, place_writes}

abbrev pub given_calls : Given → Bool
given_calls (number_given t e) = calls e
given_calls (array_given p) = place_calls p

abbrev pub given_writes : Given → ℕ → Bool
given_writes (number_given t e) x = writes e x
given_writes (array_given p) x = place_writes p x
