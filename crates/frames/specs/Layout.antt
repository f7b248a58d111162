-- Where flat code keeps the data of a call of three-address code: an object that is no array in a word of the frame, an array in the
-- bytes of the frame's arrays, a reference and a slot in a word after those of the objects; a string literal and an object
-- with static storage in the statics.
use Rattle.std.specs.Prelude.{ℕ, ◌+◌, Bool, true, false, List, [], ◌∷◌, length, Option, Some, None}
use Rattle.typing_spec.specs.Types.{ObjectType, size_of_object}
use Rattle.typing_spec.specs.Units.{in_words}
use Rattle.tac_code.specs.Code.{Function, Program}
use Rattle.tac_code.specs.Costs.{array_parameters}
use Rattle.frames.specs.Sizes.{literal_bytes, literal_sizes, static_sizes}
use Rattle.frames.specs.declared.layout.Home.{Home}
use Rattle.frames.specs.declared.layout.Home.TheVariants as home

abbrev pub is_scalar : List ℕ → Bool
is_scalar [] = true
is_scalar (n ∷ lengths) = false

-- ---- the objects of a call

abbrev pub home_for : Bool → (cell offset : ℕ) → Home
home_for true cell offset = home.Cell cell
home_for false cell offset = home.Array offset

-- the words, and the bytes of arrays, that an object takes
abbrev pub words_for : Bool → ℕ
words_for true = 1
words_for false = 0

abbrev pub bytes_for : Bool → ℕ → ℕ
bytes_for true size = 0
bytes_for false size = in_words size

abbrev pub words_of : ObjectType → ℕ
words_of t = words_for (is_scalar t.lengths)

abbrev pub bytes_of_array : ObjectType → ℕ
bytes_of_array t = bytes_for (is_scalar t.lengths) (size_of_object t)

-- one after the other, from a word and a byte on
abbrev pub homes_from : (cell offset : ℕ) → List ObjectType → List Home
homes_from c o [] = []
homes_from c o (t ∷ ts) = home_for (is_scalar t.lengths) c o ∷ homes_from (c + words_of t) (o + bytes_of_array t) ts

abbrev pub words_in : List ObjectType → ℕ
words_in [] = 0
words_in (t ∷ ts) = words_of t + words_in ts

abbrev pub bytes_in : List ObjectType → ℕ
bytes_in [] = 0
bytes_in (t ∷ ts) = bytes_of_array t + bytes_in ts

-- ---- a function

-- the homes of its objects; the words of its first reference and of its first slot; and how many instructions come before those of
-- three-address code, one for each parameter
pub record Layout : Type 0 where
  pub homes : List Home
  pub references : ℕ
  pub slots : ℕ
  pub first : ℕ

abbrev pub layout_of : Function → Layout
layout_of f = record {
  homes = homes_from 0 0 f.objects;
  references = words_in f.objects;
  slots = words_in f.objects + array_parameters f.parameters;
  first = length f.parameters;
}

-- all its words, the bytes of its arrays, its temporaries from the ninth on
abbrev pub cells_of : Function → ℕ
cells_of f = words_in f.objects + array_parameters f.parameters + f.kept

abbrev pub cell_in : Option Home → ℕ
cell_in None = 0
cell_in (Some (home.Cell c)) = c
cell_in (Some (home.Array o)) = 0

abbrev pub offset_in : Option Home → ℕ
offset_in None = 0
offset_in (Some (home.Cell c)) = 0
offset_in (Some (home.Array o)) = o

-- ---- the statics: where each of these begins

abbrev pub starts_from : ℕ → List ℕ → List ℕ
starts_from o [] = []
starts_from o (n ∷ sizes) = o ∷ starts_from (o + n) sizes

pub record Starts : Type 0 where
  pub literals : List ℕ
  pub statics : List ℕ

abbrev pub starts_of : Program → Starts
starts_of p = record {
  literals = starts_from 16 (literal_sizes p.literals);
  statics = starts_from (16 + literal_bytes p.literals) (static_sizes p.statics);
}

abbrev pub start_in : Option ℕ → ℕ
start_in None = 0
start_in (Some o) = o
