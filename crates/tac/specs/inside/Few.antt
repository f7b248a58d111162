-- Temporaries and slots whose number a word counts, and one more.
use Rattle.std.specs.Prelude.{◌≡◌, ◌<◌, ℕ, List, Some, slice_get}
use Rattle.tac_code.specs.declared.code.Operand.{Operand}
use Rattle.tac_code.specs.declared.code.Operand.TheVariants as operand
use Rattle.tac_code.specs.declared.code.Target.{Target}
use Rattle.tac_code.specs.declared.code.Target.TheVariants as target
use Rattle.tac_code.specs.declared.code.Place.{Place as Spot}
use Rattle.tac_code.specs.declared.code.Place.TheVariants as place
use Rattle.tac_code.specs.declared.code.Instruction.{Instruction}
use Rattle.tac_code.specs.declared.code.Instruction.TheVariants as instruction

abbrev pub Few : ℕ → Type 0
Few n = n < 9223372036854775808

abbrev pub FewIn : Operand → Type 0
FewIn (operand.Temporary j) = Few j
FewIn (operand.Kept j) = Few j
FewIn (operand.Object n) = Unit {0}
FewIn (operand.Parameter n) = Unit {0}
FewIn (operand.Constant v) = Unit {0}

abbrev pub FewTo : Target → Type 0
FewTo (target.Temporary j) = Few j
FewTo (target.Kept j) = Few j
FewTo (target.Object n) = Unit {0}

abbrev pub FewAt : Spot → Type 0
FewAt (place.Literal n) = Unit {0}
FewAt (place.Static n) = Unit {0}
FewAt (place.Array n) = Unit {0}
FewAt (place.Element n i t) = Unit {0}
FewAt (place.At o) = FewIn o

abbrev pub FewOf : Instruction → Type 0
FewOf (instruction.Move g x) = FewTo g × FewIn x
FewOf (instruction.Compute o r g x y) = FewTo g × FewIn x × FewIn y
FewOf (instruction.Convert t g x) = FewTo g × FewIn x
FewOf (instruction.Load t g a) = FewTo g × FewAt a
FewOf (instruction.Store t x a) = FewIn x × FewAt a
FewOf (instruction.Address g a) = FewTo g × FewAt a
FewOf (instruction.Part g x y size) = FewTo g × FewIn x × FewIn y
FewOf (instruction.Element t g x y) = FewTo g × FewIn x × FewIn y
FewOf (instruction.Branch c r x y to) = FewIn x × FewIn y
FewOf i = Unit {0}

-- the instructions of code
abbrev pub AreFew : List Instruction → Type 0
AreFew code = (j : ℕ) (x : Instruction) → slice_get code j ≡ Some x → FewOf x
