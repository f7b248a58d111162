-- The most instructions of RV32IM that each instruction of flat code takes, and a run by steps.
use Rattle.std.specs.Prelude.{ℕ, zero, suc, ◌+◌, nat_lt, if◌then◌else◌, slice_get, Option, Some, None}
use Rattle.frames_code.specs.declared.code.Instruction.{Instruction}
use Rattle.frames_code.specs.declared.code.Instruction.TheVariants as instruction
use Rattle.frames_code.specs.Code.{Function, Program, frame_bytes}
use Rattle.frames_code.specs.Run.{State, Progress, running, ended, stuck, step, function_at}

-- a call's beginning: the frame, the address to return to, the caller's twelve registers
abbrev pub entry_cost : ℕ
entry_cost = 42

abbrev pub cost : Instruction → ℕ
cost instruction.Nothing = 0
cost (instruction.Move d x) = 6
cost (instruction.Compute o d x y) = 11
cost (instruction.Convert c d x) = 8
cost (instruction.Load w d l) = 7
cost (instruction.Store w x l) = 7
cost (instruction.Address d l) = 6
cost (instruction.Element d x y size) = 13
cost (instruction.Jump to) = 1
cost (instruction.Branch t x y to) = 8
cost (instruction.Call f) = 2 + entry_cost
cost instruction.PutByte = 10
cost instruction.GetByte = 12
cost instruction.Exit = 2
cost instruction.Return = 43

abbrev pub cost_if : Option Instruction → ℕ
cost_if None = 0
cost_if (Some x) = cost x

-- the instruction that is next, if there is one
abbrev pub next_of : Program → State → Option Instruction
next_of p s = slice_get (function_at p s.frame.function).code s.frame.at

-- nothing more once the run ended
abbrev pub cost_on : Progress → (State → ℕ) → ℕ
cost_on (running s) go = go s
cost_on (ended status input trace) go = 0
cost_on stuck go = 0

-- the cost of n steps
abbrev pub spent : Program → ℕ → State → ℕ
spent p zero s = 0
spent p (suc n) s = cost_if (next_of p s) + cost_on (step p s) (spent p n)

-- ---- the same where the size of a frame is known

-- a call's beginning: where the whole frame is within the reach of 12 bits, each of its words takes one instruction
abbrev pub entry_cost_of : Function → ℕ
entry_cost_of f = if nat_lt (frame_bytes f) 0x800 then 16 else entry_cost

abbrev pub cost_in : Program → Instruction → ℕ
cost_in p (instruction.Call f) = 2 + entry_cost_of (function_at p f)
cost_in p x = cost x

abbrev pub cost_in_if : Program → Option Instruction → ℕ
cost_in_if p None = 0
cost_in_if p (Some x) = cost_in p x

-- the cost of n steps
abbrev pub spent_in : Program → ℕ → State → ℕ
spent_in p zero s = 0
spent_in p (suc n) s = cost_in_if p (next_of p s) + cost_on (step p s) (spent_in p n)

-- the entry of main, and then its run
abbrev pub spent_with_entry : Program → ℕ → State → ℕ
spent_with_entry p n s = entry_cost_of (function_at p p.main) + spent_in p n s
