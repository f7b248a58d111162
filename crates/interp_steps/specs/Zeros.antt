-- The new value of one element of an array.
use Rattle.std.specs.Prelude.{ℕ, ℤ, Option, Some, None, pos}
use Rattle.ctypes.specs.declared.types.IntType.{IntType}
use Rattle.ctypes.specs.Types.{converted}
use Rattle.csem.specs.Store.{Reference, into, set_zeros}
use Rattle.csem.specs.Machine.{State}

abbrev pub one_zero : ℕ → Reference → State → State
one_zero i r s = record s { store = set_zeros s.store (into r i) }

-- a character of a text, or the zero past its end
abbrev pub character_at : IntType → Option ℕ → ℤ
character_at t None = pos 0
character_at t (Some c) = converted t (pos c)
