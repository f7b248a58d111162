-- The bytes of the data as a program begins (ISO/IEC 9899:2011 6.7.9p10, unprivileged ISA manual 2.6: the lowest byte lies first): 16 zero
-- bytes, the string literals, the objects with static storage, each from a multiple of 4 on.
use Rattle.std.specs.Prelude.{ℕ, zero, suc, ◌/◌, ◌%◌, ◌^◌, Bool, true, false, ℤ, List, [], ◌∷◌, ◌++◌, length, take}
use Rattle.ctypes.specs.declared.types.IntType.{IntType}
use Rattle.ctypes.specs.Types.{bytes_of, modulo}
use Rattle.typing_spec.specs.Types.{size_of_object}
use Rattle.typing_spec.specs.Program.{Static}
use Rattle.typing_spec.specs.Units.{in_words}
use Rattle.tac_code.specs.Code.{Program}

-- n bytes of a word, the lowest first
abbrev pub low_bytes : ℕ → ℕ → List ℕ
low_bytes zero w = []
low_bytes (suc n) w = w % 2 ^ 8 ∷ low_bytes n (w / 2 ^ 8)

abbrev pub zeros : ℕ → List ℕ
zeros zero = []
zeros (suc n) = 0 ∷ zeros n

-- the first n, with zeros after those that there are
abbrev pub filled_up : ℕ → List ℕ → List ℕ
filled_up n bytes = take n (bytes ++ zeros n)

abbrev pub bytes_of_values : IntType → List ℤ → List ℕ
bytes_of_values t [] = []
bytes_of_values t (v ∷ vs) = low_bytes (bytes_of t) (modulo 32 v) ++ bytes_of_values t vs

abbrev pub if_defined : Bool → List ℕ → List ℕ
if_defined true bytes = bytes
if_defined false bytes = []

abbrev pub bytes_of_static : Static → List ℕ
bytes_of_static o = if_defined o.defined (filled_up (in_words (size_of_object o.type)) (bytes_of_values o.type.element o.values))

abbrev pub bytes_of_literals : List (List ℕ) → List ℕ
bytes_of_literals [] = []
bytes_of_literals (text ∷ more) = filled_up (in_words (length text)) text ++ bytes_of_literals more

abbrev pub bytes_of_statics : List Static → List ℕ
bytes_of_statics [] = []
bytes_of_statics (o ∷ more) = bytes_of_static o ++ bytes_of_statics more

abbrev pub data_of : Program → List ℕ
data_of p = zeros 16 ++ (bytes_of_literals p.literals ++ bytes_of_statics p.statics)
