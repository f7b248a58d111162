-- The layouts that the code's values hold.
use Rattle.std.specs.Prelude.{◌≡◌, ◌<◌, ◌+◌, ◌*◌, ◌^◌, slice_get}
use Rattle.ctypes.specs.Types.{bytes_of}
use Rattle.tac_code.specs.Code.{Function}
use Rattle.tac_code.specs.declared.code.Operand.{Operand}
use Rattle.tac_code.specs.declared.code.Operand.TheVariants as operand
use Rattle.tac_code.specs.declared.code.Target.{Target}
use Rattle.tac_code.specs.declared.code.Target.TheVariants as target
use Rattle.tac_code.specs.declared.code.Place.{Place}
use Rattle.tac_code.specs.declared.code.Place.TheVariants as place
use Rattle.tac_code.specs.declared.code.Instruction.{Instruction}
use Rattle.tac_code.specs.declared.code.Instruction.TheVariants as instruction
use Rattle.frames.specs.declared.layout.Layout as held
use Rattle.frames.specs.Layout.{Layout, layout_of, cells_of, bytes_in, offset_in}

abbrev pub layout_in : held.Layout → Layout
layout_in l = record { homes = l.homes.items; references = l.references; slots = l.slots; first = l.first }

pub record IsLayoutOf (l : held.Layout) (f : Function) : Type 0 where
  pub layout : layout_in l ≡ layout_of f
  pub cells : l.cells ≡ cells_of f
  pub area : l.area ≡ bytes_in f.objects

-- numbers that sums with those of a layout hold
abbrev pub OperandIsNear : Operand → Type 0
OperandIsNear (operand.Temporary k) = Unit {0}
OperandIsNear (operand.Kept k) = k < 2 ^ 40
OperandIsNear (operand.Object n) = Unit {0}
OperandIsNear (operand.Parameter n) = n < 2 ^ 40
OperandIsNear (operand.Constant v) = Unit {0}

abbrev pub TargetIsNear : Target → Type 0
TargetIsNear (target.Temporary k) = Unit {0}
TargetIsNear (target.Kept k) = k < 2 ^ 40
TargetIsNear (target.Object n) = Unit {0}

abbrev pub PlaceIsNear : Layout → Place → Type 0
PlaceIsNear l (place.Literal n) = Unit {0}
PlaceIsNear l (place.Static n) = Unit {0}
PlaceIsNear l (place.Array n) = Unit {0}
PlaceIsNear l (place.Element n i t) = offset_in (slice_get l.homes n) + i * bytes_of t < 2 ^ 40
PlaceIsNear l (place.At x) = OperandIsNear x

abbrev pub InstructionIsNear : Layout → Instruction → Type 0
InstructionIsNear h instruction.Nothing = Unit {0}
InstructionIsNear h (instruction.Move d x) = TargetIsNear d × OperandIsNear x
InstructionIsNear h (instruction.Compute o r d x y) = TargetIsNear d × OperandIsNear x × OperandIsNear y
InstructionIsNear h (instruction.Convert t d x) = TargetIsNear d × OperandIsNear x
InstructionIsNear h (instruction.Load t d l) = TargetIsNear d × PlaceIsNear h l
InstructionIsNear h (instruction.Store t x l) = OperandIsNear x × PlaceIsNear h l
InstructionIsNear h (instruction.Address d l) = TargetIsNear d × PlaceIsNear h l
InstructionIsNear h (instruction.Part d x y size) = TargetIsNear d × OperandIsNear x × OperandIsNear y
InstructionIsNear h (instruction.Element t d x y) = TargetIsNear d × OperandIsNear x × OperandIsNear y
InstructionIsNear h (instruction.Forget n k) = Unit {0}
InstructionIsNear h (instruction.Jump to) = to < 2 ^ 40
InstructionIsNear h (instruction.Branch c r x y to) = OperandIsNear x × OperandIsNear y × (to < 2 ^ 40)
InstructionIsNear h (instruction.Call g) = Unit {0}
InstructionIsNear h instruction.PutByte = Unit {0}
InstructionIsNear h instruction.GetByte = Unit {0}
InstructionIsNear h instruction.Exit = Unit {0}
InstructionIsNear h instruction.Return = Unit {0}
