-- How many bytes the string literals and the objects with static storage take, each rounded up to a multiple of 4.
use Rattle.std.specs.Prelude.{ℕ, ◌+◌, List, [], ◌∷◌, length, map}
use Rattle.typing_spec.specs.Types.{size_of_object}
use Rattle.typing_spec.specs.Program.{Static}
use Rattle.typing_spec.specs.Units.{in_words}
use Rattle.tac_code.specs.Sound.{static_bytes}

abbrev pub literal_sizes : List (List ℕ) → List ℕ
literal_sizes literals = map (λ text. in_words (length text)) literals

abbrev pub static_sizes : List Static → List ℕ
static_sizes statics = map (λ o. static_bytes o.defined (size_of_object o.type)) statics

abbrev pub literal_bytes : List (List ℕ) → ℕ
literal_bytes [] = 0
literal_bytes (text ∷ more) = in_words (length text) + literal_bytes more

abbrev pub statics_bytes : List Static → ℕ
statics_bytes [] = 0
statics_bytes (o ∷ more) = static_bytes o.defined (size_of_object o.type) + statics_bytes more
