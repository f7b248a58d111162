-- The bytes of elements and rows.
use Rattle.std.specs.Prelude.{ℕ, zero, suc, ◌*◌, ◌-◌, ◌^◌, min, List, [], ◌∷◌, Option}
use Rattle.ctypes.specs.declared.types.IntType.{IntType}
use Rattle.ctypes.specs.Types.{bytes_of}
use Rattle.typing_spec.specs.Types.{DeclaredType, elements_in}
use Rattle.typing_spec.specs.Program.{Place}
use Rattle.typing_spec.specs.Nodes.{row_type}
use Rattle.typed_ast.specs.View.{program_of, function_of}
use Rattle.lower_correct.specs.Places.{size_of_type, size_of_place}
use Rattle.lower_ops.specs.declared.scopes.Scope.{Scope}

-- the size of a part that is n elements deep in such an object
abbrev pub deep_size : ℕ → Option DeclaredType → ℕ
deep_size zero t = size_of_type t
deep_size (suc n) t = deep_size n (row_type t)

-- the same of an object of these lengths
abbrev pub size_at : ℕ → IntType → List ℕ → ℕ
size_at zero e lengths = bytes_of e * elements_in lengths
size_at (suc n) e [] = 0
size_at (suc n) e (l ∷ lengths) = size_at n e lengths

-- as far as a word counts
abbrev pub counted : ℕ → ℕ
counted n = min n (2 ^ 64 - 1)

-- in a function of a program
abbrev pub sizes_in : Scope → Place → ℕ
sizes_in s a = size_of_place (program_of s.program.now) (function_of s.function.now) a
