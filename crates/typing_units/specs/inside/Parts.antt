-- The parts of the definitions' sums.
use Rattle.std.specs.Prelude.{ℕ, Bool, true, false, ◌++◌, ◌∷◌, [], length, if◌then◌else◌}
use Rattle.typing_spec.specs.Types.{ParameterType, number, elements, size_of_object, size_of_parameter}
use Rattle.typing_spec.specs.Scope.{Scope, StaticObject, literal_of}
use Rattle.typing_spec.specs.Units.{in_words}

-- the bytes of a parameter that is a reference
abbrev pub reference_bytes : ParameterType → ℕ
reference_bytes (number t) = 0
reference_bytes (elements t) = in_words (size_of_parameter (elements t))

-- the bytes of a string literal, and of an object with static storage
abbrev pub literal_bytes : Scope → ℕ → ℕ
literal_bytes s n = in_words (length (literal_of s n ++ 0 ∷ []))

abbrev pub static_bytes : StaticObject → ℕ
static_bytes o = if o.defined then in_words (size_of_object o.type) else 0

abbrev pub is_number : ParameterType → Bool
is_number (number t) = true
is_number (elements t) = false
