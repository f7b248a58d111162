-- At most how many instructions of RV32IM each instruction takes, how many bytes of code, and how many bytes of the stack a call takes. A word of the frame
-- takes up to three to read or write, where it is past the reach of 12 bits; a constant two.
use Rattle.std.specs.Prelude.{ℕ, zero, suc, ◌+◌, ◌*◌, ◌-◌, ◌/◌, max, nat_lt, if◌then◌else◌, List, [], ◌∷◌, length, sum_by, Option, Some, None}
use Rattle.ctypes.specs.Types.{bytes_of}
use Rattle.typing_spec.specs.Units.{bytes_of_objects}
use Rattle.tac_code.specs.declared.code.Operand.{Operand}
use Rattle.tac_code.specs.declared.code.Operand.TheVariants as operand
use Rattle.tac_code.specs.declared.code.Target.{Target}
use Rattle.tac_code.specs.declared.code.Target.TheVariants as target
use Rattle.tac_code.specs.declared.code.Place.{Place}
use Rattle.tac_code.specs.declared.code.Place.TheVariants as place
use Rattle.tac_code.specs.declared.code.Parameter.{Parameter}
use Rattle.tac_code.specs.declared.code.Parameter.TheVariants as parameter
use Rattle.tac_code.specs.declared.code.Instruction.{Instruction}
use Rattle.tac_code.specs.declared.code.Instruction.TheVariants as instruction
use Rattle.tac_code.specs.Code.{Function, Program, function_at}
use Rattle.tac_code.specs.Run.{State, Progress, running, ended, stuck, step, instruction_at}

-- ---- instructions executed

-- a call's beginning: the frame, the address to return to, the callers' twelve registers, and each parameter's home
abbrev pub entry_cost : Function → ℕ
entry_cost f = 42 + 6 * length f.parameters

abbrev pub cost : Program → Instruction → ℕ
cost p instruction.Nothing = 0
cost p (instruction.Move d x) = 6
cost p (instruction.Compute o r d x y) = 11
cost p (instruction.Convert t d x) = 8
cost p (instruction.Load t d l) = 7
cost p (instruction.Store t x l) = 7
cost p (instruction.Address d l) = 6
cost p (instruction.Part d x y size) = 13
cost p (instruction.Element t d x y) = 13
cost p (instruction.Forget n k) = 0
cost p (instruction.Jump to) = 1
cost p (instruction.Branch c r x y to) = 8
cost p (instruction.Call f) = 2 + entry_cost (function_at p f)
cost p instruction.PutByte = 10
cost p instruction.GetByte = 12
cost p instruction.Exit = 2
cost p instruction.Return = 43

abbrev pub cost_if : Program → Option Instruction → ℕ
cost_if p None = 0
cost_if p (Some i) = cost p i

abbrev pub cost_on : Progress → (State → ℕ) → ℕ
cost_on (running s) go = go s
cost_on (ended status input history) go = 0
cost_on stuck go = 0

-- the cost of n steps
abbrev pub spent : Program → ℕ → State → ℕ
spent p zero s = 0
spent p (suc n) s = cost_if p (instruction_at p s) + cost_on (step p s) (spent p n)

-- the same from the beginning of main on
abbrev pub spent_in_all : Program → ℕ → State → ℕ
spent_in_all p n s = entry_cost (function_at p p.main) + spent p n s

-- ---- bytes of code

-- temporaries below 8 are registers
abbrev pub temporary_bytes : ℕ → ℕ
temporary_bytes k = if nat_lt k 8 then 0 else 12

abbrev pub fetch_bytes : Operand → ℕ
fetch_bytes (operand.Temporary k) = temporary_bytes k
fetch_bytes (operand.Kept k) = 12
fetch_bytes (operand.Object n) = 12
fetch_bytes (operand.Parameter n) = 12
fetch_bytes (operand.Constant v) = 8

abbrev pub keep_bytes : Target → ℕ
keep_bytes (target.Temporary k) = temporary_bytes k
keep_bytes (target.Kept k) = 12
keep_bytes (target.Object n) = 12

abbrev pub move_bytes : Target → Operand → ℕ
move_bytes d x = max 4 (fetch_bytes x + keep_bytes d)

-- before an access
abbrev pub reach_bytes : Place → ℕ
reach_bytes (place.Literal n) = 8
reach_bytes (place.Static n) = 8
reach_bytes (place.Array n) = 8
reach_bytes (place.Element n i t) = 8
reach_bytes (place.At x) = fetch_bytes x

abbrev pub reference_bytes : Target → Place → ℕ
reference_bytes d (place.Literal n) = 8 + keep_bytes d
reference_bytes d (place.Static n) = 8 + keep_bytes d
reference_bytes d (place.Array n) = 12 + keep_bytes d
reference_bytes d (place.Element n i t) = 12 + keep_bytes d
reference_bytes d (place.At x) = move_bytes d x

-- to go on by elements of this size: a shift, but for one byte
abbrev pub scale_bytes : ℕ → ℕ
scale_bytes size = if nat_lt size 2 then 4 else 8

abbrev pub code_bytes : Instruction → ℕ
code_bytes instruction.Nothing = 0
code_bytes (instruction.Move d x) = move_bytes d x
code_bytes (instruction.Compute o r d x y) = fetch_bytes x + (fetch_bytes y + (8 + keep_bytes d))
code_bytes (instruction.Convert t d x) = fetch_bytes x + (8 + keep_bytes d)
code_bytes (instruction.Load t d l) = reach_bytes l + (4 + keep_bytes d)
code_bytes (instruction.Store t x l) = fetch_bytes x + (reach_bytes l + 4)
code_bytes (instruction.Address d l) = reference_bytes d l
code_bytes (instruction.Part d x y size) = fetch_bytes x + (fetch_bytes y + (16 + keep_bytes d))
code_bytes (instruction.Element t d x y) = fetch_bytes x + (fetch_bytes y + (scale_bytes (bytes_of t) + keep_bytes d))
code_bytes (instruction.Forget n k) = 0
code_bytes (instruction.Jump to) = 4
code_bytes (instruction.Branch c r x y to) = fetch_bytes x + (fetch_bytes y + 8)
code_bytes (instruction.Call f) = 8
code_bytes instruction.PutByte = 52
code_bytes instruction.GetByte = 48
code_bytes instruction.Exit = 8
code_bytes instruction.Return = 172

abbrev pub function_bytes : Function → ℕ
function_bytes f = 4 * entry_cost f + sum_by code_bytes f.code

-- ---- bytes of the stack

abbrev pub array_parameters : List Parameter → ℕ
array_parameters [] = 0
array_parameters (parameter.Number ∷ more) = array_parameters more
array_parameters (parameter.Array ∷ more) = suc (array_parameters more)

-- of a call, at most: the temporaries from the ninth on, a word for a byte that is put or got and one for the address to return to,
-- the slots, the references and the objects; a multiple of 16
abbrev pub call_bytes : Function → ℕ
call_bytes f =
    (4 * (f.temporaries - 8) + (8 + (4 * f.kept + (4 * array_parameters f.parameters + bytes_of_objects f.objects))) + 15) / 16 * 16
