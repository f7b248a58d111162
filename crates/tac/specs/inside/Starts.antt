-- Parts that begin at an element of an array.
use Rattle.std.specs.Prelude.{ℕ, List}
use Rattle.tac_code.specs.declared.code.Target.TheVariants as target
use Rattle.tac_code.specs.declared.code.Place.{Place as Spot}
use Rattle.tac_code.specs.declared.code.Place.TheVariants as place
use Rattle.tac_code.specs.declared.code.Instruction.{Instruction}
use Rattle.tac_code.specs.declared.code.Instruction.TheVariants as instruction
use Rattle.lower_correct.specs.Code.{One, zero_word}
use Rattle.lower_correct.specs.Initialisers.{Clears}
use Rattle.lower_ops.specs.layer.Parts.{Wrote}
use Rattle.tac.specs.declared.elements.Start.{Start}
use Rattle.tac.specs.inside.FirstSizes.{begins_size, clears_size}

abbrev pub element_at : Start → Spot
element_at a = place.Element a.array a.number a.element

-- before a loop: temporary 0 counts from zero, temporary 1 refers to the element
abbrev pub WroteBegins : Start → (old new : List Instruction) → Type 0
WroteBegins a old new =
    Wrote (λ w pc pc2. (p1 : ℕ) × One w (instruction.Move (target.Temporary 0) zero_word) pc p1
    × One w (instruction.Address (target.Temporary 1) (element_at a)) p1 pc2) begins_size old new

-- `count` elements become zero
abbrev pub WroteClears : (count : ℕ) → Start → (old new : List Instruction) → Type 0
WroteClears count a old new = Wrote (λ w pc pc2. Clears w a.element a.array a.number count pc pc2) (clears_size count) old new
