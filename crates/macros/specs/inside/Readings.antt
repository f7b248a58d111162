-- The result of the code that reads parameters.
use Rattle.std.specs.Prelude.{◌≡◌, ◌≤◌, ℕ, Option, Some, None}
use Rattle.srcset.specs.NameTable.{Texts}
use Rattle.macros.specs.declared.reading.Reading.{Reading}
use Rattle.macros.specs.inside.Reading.{Read, IsRead}

abbrev pub IsReading : Texts → Option Reading → Option Read → Type 0
IsReading texts None r = r ≡ None
IsReading texts (Some reading) r = IsRead texts reading.numbers.items reading.variadic reading.len r

abbrev pub IsWithin : Option Reading → ℕ → Type 0
IsWithin None n = Unit {0}
IsWithin (Some reading) n = reading.len ≤ n
