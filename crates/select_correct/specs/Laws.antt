-- The statement of simulation: each form of instruction, and steps.
use Rattle.std.specs.Prelude.{◌≡◌, ◌<◌, ℕ, ◌^◌, List, slice_get, Some, length}
use Rattle.rv32.specs.declared.instr.Test.{Test}
use Rattle.frames_code.specs.declared.code.Operand.{Operand}
use Rattle.frames_code.specs.declared.code.Target.{Target}
use Rattle.frames_code.specs.declared.code.Width.{Width}
use Rattle.frames_code.specs.declared.code.Location.{Location}
use Rattle.frames_code.specs.declared.code.Operation.{Operation}
use Rattle.frames_code.specs.declared.code.Conversion.{Conversion}
use Rattle.frames_code.specs.declared.code.Instruction.{Instruction}
use Rattle.frames_code.specs.declared.code.Instruction.TheVariants as instruction
use Rattle.frames_code.specs.Run.{State, running, act, function_at}
use Rattle.select_exec.specs.Light.{Light, Go, Comes}
use Rattle.select_correct.specs.Matches.{Ground, Ready, Matched, Matches, HasRoom, IsBelow, address}
use Rattle.select_correct.specs.Costs.{least, least_at, most_at, row}
use Rattle.frames_code.specs.Code.{Program}
use Rattle.frames_code.specs.Sound.{FunctionFits, IsSoundProgram}

abbrev pub Anything : Light → Type 0
Anything m = Unit {0}

-- At the instruction, the machine goes from matching a state to matching the state after the instruction, in the number of instructions that the table gives.
-- The frame on top begins below the waiting call that `Ground` singles out, if any.
abbrev pub Follows : Instruction → Type 0
Follows x =
    (G : Ground) (s : State) (r b : ℕ → ℕ) → Ready G → Matched G s r (address G s.frame.function s.frame.at) b → IsBelow G (running s)
    → slice_get (function_at G.program s.frame.function).code s.frame.at ≡ Some x → HasRoom G (act G.program s x)
    → Comes G.machine Anything (least_at (function_at G.program s.frame.function) s.frame.at x) (most_at G.program (function_at G.program s.frame.function) s.frame.at x) (Go r (address G s.frame.function s.frame.at) b s.input s.trace) (Matches G (act G.program s x))

-- the input is bytes: each value is less than 2^8
abbrev pub AreBytes : List ℕ → Type 0
AreBytes input = (k c : ℕ) → slice_get input k ≡ Some c → c < 2 ^ 8

abbrev pub NothingFollows : Type 0
NothingFollows = Follows instruction.Nothing

abbrev pub JumpsFollow : Type 0
JumpsFollow = (to : ℕ) → Follows (instruction.Jump to)

abbrev pub BranchesFollow : Type 0
BranchesFollow = (t : Test) (x y : Operand) (to : ℕ) → Follows (instruction.Branch t x y to)

abbrev pub MovesFollow : Type 0
MovesFollow = (d : Target) (x : Operand) → Follows (instruction.Move d x)

abbrev pub ConversionsFollow : Type 0
ConversionsFollow = (c : Conversion) (d : Target) (x : Operand) → Follows (instruction.Convert c d x)

abbrev pub OperationsFollow : Type 0
OperationsFollow = (o : Operation) (d : Target) (x y : Operand) → Follows (instruction.Compute o d x y)

abbrev pub ExitFollows : Type 0
ExitFollows = Follows instruction.Exit

abbrev pub AddressesFollow : Type 0
AddressesFollow = (d : Target) (l : Location) → Follows (instruction.Address d l)

abbrev pub ElementsFollow : Type 0
ElementsFollow = (d : Target) (x y : Operand) (size : ℕ) → Follows (instruction.Element d x y size)

abbrev pub LoadsFollow : Type 0
LoadsFollow = (w : Width) (d : Target) (l : Location) → Follows (instruction.Load w d l)

abbrev pub StoresFollow : Type 0
StoresFollow = (w : Width) (x : Operand) (l : Location) → Follows (instruction.Store w x l)

abbrev pub PutFollows : Type 0
PutFollows = Follows instruction.PutByte

-- where the input is bytes
abbrev pub GetFollows : Type 0
GetFollows =
    (G : Ground) (s : State) (r b : ℕ → ℕ) → Ready G → Matched G s r (address G s.frame.function s.frame.at) b → IsBelow G (running s) → AreBytes s.input
    → slice_get (function_at G.program s.frame.function).code s.frame.at ≡ Some instruction.GetByte → HasRoom G (act G.program s instruction.GetByte)
    → Comes G.machine Anything (least instruction.GetByte) (row (function_at G.program s.frame.function) instruction.GetByte) (Go r (address G s.frame.function s.frame.at) b s.input s.trace) (Matches G (act G.program s instruction.GetByte))

abbrev pub CallsFollow : Type 0
CallsFollow = (f : ℕ) → Follows (instruction.Call f)

abbrev pub ReturnsFollow : Type 0
ReturnsFollow = Follows instruction.Return

-- the functions of a sound program meet the requirements on each
abbrev pub FunctionsFit : Type 0
FunctionsFit = (p : Program) → IsSoundProgram p → (k : ℕ) → FunctionFits (length p.functions) (function_at p k)
