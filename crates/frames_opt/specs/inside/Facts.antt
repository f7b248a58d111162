-- The contents of the temporaries, as far as the code itself determines them.
use Rattle.std.specs.Prelude.{ℕ, ◌+◌, ◌*◌, ◌==◌, ◌&&◌, nat_lt, nat_le, Bool, true, false, if◌then◌else◌, List, map, set, get_or, replicate}
use Rattle.rv32.specs.declared.instr.RegisterOp.{RegisterOp}
use Rattle.rv32.specs.declared.instr.RegisterOp.TheVariants as register_op
use Rattle.rv32.specs.Arithmetic.{operate_of}
use Rattle.frames_code.specs.declared.code.Operation.{Operation}
use Rattle.frames_code.specs.declared.code.Operation.TheVariants as operation
use Rattle.frames_code.specs.declared.code.Operand.{Operand}
use Rattle.frames_code.specs.declared.code.Operand.TheVariants as operand
use Rattle.frames_code.specs.declared.code.Target.{Target}
use Rattle.frames_code.specs.declared.code.Target.TheVariants as target
use Rattle.frames_code.specs.declared.code.Base.{Base}
use Rattle.frames_code.specs.declared.code.Base.TheVariants as base
use Rattle.frames_code.specs.declared.code.Location.{Location}
use Rattle.frames_code.specs.declared.code.Location.TheVariants as location
use Rattle.frames_code.specs.declared.code.Instruction.{Instruction}
use Rattle.frames_code.specs.declared.code.Instruction.TheVariants as instruction
use Rattle.frames_code.specs.Code.{Function, area_home}
use Rattle.frames_code.specs.Sound.{is_power_of_two}
use Rattle.frames_opt.specs.declared.room.Room.{Room}
use Rattle.frames_opt.specs.declared.facts.Known.{Known}
use Rattle.frames_opt.specs.declared.facts.Known.TheVariants as known

abbrev pub nothing : List Known
nothing = replicate 8 known.Unknown

abbrev pub held : List Known → ℕ → Known
held facts k = get_or facts k known.Unknown

abbrev pub known_of : List Known → Operand → Known
known_of facts (operand.Temporary k) = held facts k
known_of facts (operand.Cell c) = known.Unknown
known_of facts (operand.Constant v) = known.Word v
known_of facts (operand.Argument k) = known.Unknown

abbrev pub reference_to : Location → Known
reference_to (location.Statics o) = known.Statics o
reference_to (location.Frame o) = known.Frame o
reference_to (location.At x) = known.Unknown
reference_to (location.Indexed b y size) = known.Unknown

-- the word that is written is the operand
abbrev pub is_target : Target → Operand → Bool
is_target (target.Temporary j) (operand.Temporary k) = j == k
is_target (target.Temporary j) (operand.Cell c) = false
is_target (target.Temporary j) (operand.Constant v) = false
is_target (target.Temporary j) (operand.Argument k) = false
is_target (target.Cell c) (operand.Temporary k) = false
is_target (target.Cell c) (operand.Cell e) = c == e
is_target (target.Cell c) (operand.Constant v) = false
is_target (target.Cell c) (operand.Argument k) = false

-- what stays known as a word is written: nothing by an index that is in it
abbrev pub killed : Target → Known → Known
killed d known.Unknown = known.Unknown
killed d (known.Word w) = known.Word w
killed d (known.Statics o) = known.Statics o
killed d (known.Frame o) = known.Frame o
killed d (known.Indexed b y size) = if is_target d y then known.Unknown else known.Indexed b y size

abbrev pub all_killed : Target → List Known → List Known
all_killed d facts = map (killed d) facts

abbrev pub learned : List Known → Target → Known → List Known
learned facts (target.Temporary k) x = set (all_killed (target.Temporary k) facts) k (killed (target.Temporary k) x)
learned facts (target.Cell c) x = all_killed (target.Cell c) facts

-- ---- elements by an index

-- where the arrays of a frame begin, or more where it has many words
abbrev pub home_bound : Function → ℕ
home_bound f = if nat_le f.outgoing 0x200 && nat_le f.cells 0x200 then area_home f else 0x1000

abbrev pub room_of : Function → Room
room_of f = record { area = f.area; home = home_bound f; gives = f.gives }

abbrev pub is_index : Operand → Bool
is_index (operand.Temporary k) = true
is_index (operand.Cell c) = true
is_index (operand.Constant v) = false
is_index (operand.Argument k) = false

-- an access names a base, an index and a size at no more cost than a reference
abbrev pub is_cheap : Room → Operand → ℕ → Bool
is_cheap room y size = is_index y && (is_power_of_two size && nat_le room.home 0x800)

abbrev pub is_near : Room → Base → Bool
is_near room (base.Statics o) = nat_lt o 0x1000
is_near room (base.Frame o) = nat_lt o room.area && nat_lt (room.home + o) 0x800

abbrev pub indexed_if : Bool → Base → Operand → ℕ → Known
indexed_if t b y size = if t then known.Indexed b y size else known.Unknown

abbrev pub from_base : Room → Base → Operand → ℕ → Known
from_base room b y size = indexed_if (is_near room b && is_cheap room y size) b y size

abbrev pub moved : Base → ℕ → Base
moved (base.Statics o) n = base.Statics (o + n)
moved (base.Frame o) n = base.Frame (o + n)

-- a constant number of elements further on
abbrev pub further : Room → Base → Operand → ℕ → Operand → ℕ → Known
further room b z width (operand.Temporary k) size = known.Unknown
further room b z width (operand.Cell c) size = known.Unknown
further room b z width (operand.Constant n) size = indexed_if (is_near room (moved b (n * size))) (moved b (n * size)) z width
further room b z width (operand.Argument k) size = known.Unknown

-- the element that an index leads to from a reference
abbrev pub indexed_from : Room → Known → Operand → ℕ → Known
indexed_from room known.Unknown y size = known.Unknown
indexed_from room (known.Word w) y size = known.Unknown
indexed_from room (known.Statics o) y size = from_base room (base.Statics o) y size
indexed_from room (known.Frame o) y size = from_base room (base.Frame o) y size
indexed_from room (known.Indexed b z width) y size = further room b z width y size

-- ---- operations on words that are known

abbrev pub result_of : RegisterOp → ℕ → ℕ → Known
result_of register_op.Add a b = known.Word (operate_of register_op.Add a b)
result_of register_op.Sub a b = known.Word (operate_of register_op.Sub a b)
result_of register_op.ShiftLeft a b = known.Word (operate_of register_op.ShiftLeft a b)
result_of register_op.Less a b = known.Unknown
result_of register_op.LessUnsigned a b = known.Unknown
result_of register_op.Xor a b = known.Unknown
result_of register_op.ShiftRight a b = known.Unknown
result_of register_op.ShiftRightArithmetic a b = known.Unknown
result_of register_op.Or a b = known.Unknown
result_of register_op.And a b = known.Unknown
result_of register_op.Mul a b = known.Word (operate_of register_op.Mul a b)
result_of register_op.MulHigh a b = known.Unknown
result_of register_op.MulHighSignedUnsigned a b = known.Unknown
result_of register_op.MulHighUnsigned a b = known.Unknown
result_of register_op.Div a b = known.Unknown
result_of register_op.DivUnsigned a b = known.Unknown
result_of register_op.Rem a b = known.Unknown
result_of register_op.RemUnsigned a b = known.Unknown

abbrev pub result_on : Operation → ℕ → ℕ → Known
result_on (operation.Machine o) a b = result_of o a b
result_on operation.Equal a b = known.Unknown
result_on operation.NotEqual a b = known.Unknown

abbrev pub result_with : Operation → ℕ → Operand → Known
result_with o a (operand.Temporary k) = known.Unknown
result_with o a (operand.Cell c) = known.Unknown
result_with o a (operand.Constant b) = result_on o a b
result_with o a (operand.Argument k) = known.Unknown

abbrev pub computed : Operation → Operand → Operand → Known
computed o (operand.Temporary k) y = known.Unknown
computed o (operand.Cell c) y = known.Unknown
computed o (operand.Constant a) y = result_with o a y
computed o (operand.Argument k) y = known.Unknown

-- the facts known after an instruction
abbrev pub behind : Room → List Known → Instruction → List Known
behind room facts instruction.Nothing = facts
behind room facts (instruction.Move d x) = learned facts d (known_of facts x)
behind room facts (instruction.Compute o d x y) = learned facts d (computed o x y)
behind room facts (instruction.Convert c d x) = learned facts d known.Unknown
behind room facts (instruction.Load w d l) = learned facts d known.Unknown
behind room facts (instruction.Store w x l) = facts
behind room facts (instruction.Address d l) = learned facts d (reference_to l)
behind room facts (instruction.Element d x y size) = learned facts d (indexed_from room (known_of facts x) y size)
behind room facts (instruction.Jump to) = nothing
behind room facts (instruction.Branch t x y to) = facts
behind room facts (instruction.Call f) = nothing
behind room facts instruction.PutByte = nothing
behind room facts instruction.GetByte = nothing
behind room facts instruction.Exit = nothing
behind room facts instruction.Return = nothing
