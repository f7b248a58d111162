-- Parts of the typed program and modes as the code's values hold them, and the meaning of writing a part of code.
use Rattle.std.specs.Prelude.{◌≡◌, ℕ, ◌+◌, ◌<◌, Bool, false, min, List, ◌++◌, length, Option, Some, None}
use Rattle.tac_code.specs.declared.code.Instruction.{Instruction}
use Rattle.tac_code.specs.declared.code.Target.TheVariants as target
use Rattle.lower_correct.specs.Values.{Mode, Nowhere, To, If}
use Rattle.lower_ops.specs.declared.modes.Mode as held
use Rattle.lower_ops.specs.declared.modes.Mode.TheVariants as mode
use Rattle.lower_ops.specs.declared.modes.Shape.{Shape}
use Rattle.lower_ops.specs.declared.modes.Shape.TheVariants as shape

-- whether the object that has the value is written to
abbrev pub is_written : Option ℕ → (ℕ → Bool) → Bool
is_written None written = false
is_written (Some x) written = written x

-- ---- modes

abbrev pub meant : held.Mode → Mode
meant mode.Nowhere = Nowhere
meant (mode.To g) = To g
meant (mode.If sense to) = If sense to

-- a temporary that the value goes to has a number after it
abbrev pub IsNear : Mode → Type 0
IsNear Nowhere = Unit {0}
IsNear (To (target.Temporary j)) = j < 4611686018427387904
IsNear (To (target.Kept j)) = Unit {0}
IsNear (To (target.Object x)) = Unit {0}
IsNear (If sense to) = Unit {0}

-- the part of a mode that decides the number of instructions
abbrev pub shape_of : Mode → Shape
shape_of Nowhere = shape.Nowhere
shape_of (To (target.Temporary j)) = shape.Local
shape_of (To (target.Kept j)) = shape.Local
shape_of (To (target.Object x)) = shape.Object
shape_of (If sense to) = shape.Jump

-- ---- numbers of instructions, saturating at 2^64 - 1

unfoldable pub plus : ℕ → ℕ → ℕ
plus m n = min (m + n) 18446744073709551615

-- ---- code that was written after other code

pub record Begins (old new : List Instruction) : Type 0 where
  pub rest : List Instruction
  pub is : new ≡ old ++ rest

-- n instructions were written that satisfy P, whatever follows them; the whole has fewer than 2^62 instructions
pub record Wrote (P : List Instruction → ℕ → ℕ → Type 0) (n : ℕ) (old new : List Instruction) : Type 0 where
  pub begins : Begins old new
  pub grows : length new ≡ length old + n
  pub short : length new < 4611686018427387904
  pub stands : (whole : List Instruction) → Begins new whole → P whole (length old) (length new)
