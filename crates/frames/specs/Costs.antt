-- An upper bound of the RV32IM instructions that a run of flat code executes, and of the bytes of its code.
use Rattle.std.specs.Prelude.{ℕ, ◌+◌, ◌*◌, ◌==◌, max, nat_lt, if◌then◌else◌, sum_by}
use Rattle.frames_code.specs.declared.code.Operand.{Operand}
use Rattle.frames_code.specs.declared.code.Operand.TheVariants as operand
use Rattle.frames_code.specs.declared.code.Target.{Target}
use Rattle.frames_code.specs.declared.code.Target.TheVariants as target
use Rattle.frames_code.specs.declared.code.Location.{Location}
use Rattle.frames_code.specs.declared.code.Location.TheVariants as location
use Rattle.frames_code.specs.declared.code.Instruction.{Instruction}
use Rattle.frames_code.specs.declared.code.Instruction.TheVariants as instruction
use Rattle.frames_code.specs.Code.{Function, Program}
use Rattle.frames_code.specs.Run.{State}
use Rattle.frames_code.specs.Costs.{entry_cost, entry_cost_of, spent}

-- the entry of main, and then its run
abbrev pub spent_in_all : Program → ℕ → State → ℕ
spent_in_all p n s = entry_cost + spent p n s

-- The bytes of its code: temporaries below 8 are registers, a word of the frame may lie past the reach of 12 bits, a constant takes two
-- instructions. No jump leads within the code of one instruction, but for a long branch, which counts whole. So they are at most four
-- times its cost, but for a call, whose beginning is that of the function called, and for an access by an index, which has its cost only in a small frame.
abbrev pub temporary_bytes : ℕ → ℕ
temporary_bytes k = if nat_lt k 8 then 0 else 12

abbrev pub fetch_bytes : Operand → ℕ
fetch_bytes (operand.Temporary k) = temporary_bytes k
fetch_bytes (operand.Cell c) = 12
fetch_bytes (operand.Constant v) = 8
fetch_bytes (operand.Argument k) = 12

abbrev pub keep_bytes : Target → ℕ
keep_bytes (target.Temporary k) = temporary_bytes k
keep_bytes (target.Cell c) = 12

abbrev pub move_bytes : Target → Operand → ℕ
move_bytes d x = max 4 (fetch_bytes x + keep_bytes d)

-- to go on by elements of this size: a shift, or a product, but for one byte
abbrev pub scale_bytes : ℕ → ℕ
scale_bytes size = if size == 1 then 4 else (if size == 2 then 8 else (if size == 4 then 8 else 16))

-- before an access
abbrev pub reach_bytes : Location → ℕ
reach_bytes (location.Statics o) = 8
reach_bytes (location.Frame o) = 8
reach_bytes (location.At x) = fetch_bytes x
reach_bytes (location.Indexed b y size) = fetch_bytes y + scale_bytes size

abbrev pub reference_bytes : Target → Location → ℕ
reference_bytes d (location.Statics o) = 8 + keep_bytes d
reference_bytes d (location.Frame o) = 12 + keep_bytes d
reference_bytes d (location.At x) = move_bytes d x
reference_bytes d (location.Indexed b y size) = fetch_bytes y + (scale_bytes size + (4 + keep_bytes d))

abbrev pub code_bytes : Instruction → ℕ
code_bytes instruction.Nothing = 0
code_bytes (instruction.Move d x) = move_bytes d x
code_bytes (instruction.Compute o d x y) = fetch_bytes x + (fetch_bytes y + (8 + keep_bytes d))
code_bytes (instruction.Convert c d x) = fetch_bytes x + (8 + keep_bytes d)
code_bytes (instruction.Load w d l) = reach_bytes l + (4 + keep_bytes d)
code_bytes (instruction.Store w x l) = fetch_bytes x + (reach_bytes l + 4)
code_bytes (instruction.Address d l) = reference_bytes d l
code_bytes (instruction.Element d x y size) = fetch_bytes x + (fetch_bytes y + (scale_bytes size + keep_bytes d))
code_bytes (instruction.Jump to) = 4
code_bytes (instruction.Branch t x y to) = fetch_bytes x + (fetch_bytes y + 8)
code_bytes (instruction.Call f) = 8
code_bytes instruction.PutByte = 52
code_bytes instruction.GetByte = 48
code_bytes instruction.Exit = 8
code_bytes instruction.Return = 172

abbrev pub function_bytes : Function → ℕ
function_bytes f = 4 * entry_cost + sum_by code_bytes f.code

-- the same where the size of the frame is known
abbrev pub function_bytes_in : Function → ℕ
function_bytes_in f = 4 * entry_cost_of f + sum_by code_bytes f.code
