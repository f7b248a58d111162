-- A function, and data, that are flattened by themselves.
use Rattle.std.specs.Prelude.{ℕ, List, []}
use Rattle.typing_spec.specs.Program.{Static}
use Rattle.tac_code.specs.Code.{Program}
use Rattle.frames.specs.declared.starts.Starts as held
use Rattle.frames.specs.Layout.{Starts}

-- the starts that a value of the code holds
abbrev pub starts_in : held.Starts → Starts
starts_in s = record { literals = s.literals.items; statics = s.statics.items }

-- a program of these literals and static objects alone
abbrev pub with_data : List (List ℕ) → List Static → Program
with_data literals statics = record { functions = []; literals = literals; statics = statics; main = 0 }
