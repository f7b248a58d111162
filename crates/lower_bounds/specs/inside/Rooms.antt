-- How much room the instructions of a program's code take: bytes of code, no less than 4 an instruction, so that room bounds their number too.
use Rattle.std.specs.Prelude.{ℕ, zero, suc, ◌+◌, max, List, [], ◌∷◌}
use Rattle.tac_code.specs.declared.code.Instruction.{Instruction}
use Rattle.tac_code.specs.declared.code.Instruction.TheVariants as instruction
use Rattle.tac_code.specs.Costs.{code_bytes}

abbrev pub room_of : Instruction → ℕ
room_of x = max 4 (code_bytes x)

-- the most that it is, whatever an instruction's operands are
abbrev pub coarse_of : Instruction → ℕ
coarse_of instruction.Nothing = 4
coarse_of (instruction.Move d x) = 24
coarse_of (instruction.Compute o r d x y) = 44
coarse_of (instruction.Convert t d x) = 32
coarse_of (instruction.Load t d l) = 28
coarse_of (instruction.Store t x l) = 28
coarse_of (instruction.Address d l) = 24
coarse_of (instruction.Part d x y size) = 52
coarse_of (instruction.Element t d x y) = 44
coarse_of (instruction.Forget n k) = 4
coarse_of (instruction.Jump to) = 4
coarse_of (instruction.Branch c r x y to) = 32
coarse_of (instruction.Call f) = 8
coarse_of instruction.PutByte = 52
coarse_of instruction.GetByte = 48
coarse_of instruction.Exit = 8
coarse_of instruction.Return = 172

-- the room of the first n instructions
abbrev pub before : List Instruction → ℕ → ℕ
before code zero = 0
before [] (suc n) = 0
before (i ∷ code) (suc n) = before code n + room_of i
