-- That jumps reach in the items of flat programs whose functions are short.
use Rattle.std.specs.Prelude.{◌≡◌, ◌≤◌, ℕ, ◌+◌, ◌^◌, slice_get, Some, sum_by}
use Rattle.asm.specs.Layout.{AllReach}
use Rattle.frames_code.specs.Code.{Function, Program}
use Rattle.frames_code.specs.Sound.{IsSoundProgram}
use Rattle.select.specs.Program.{program_items}
use Rattle.select.specs.Bytes.{entry_bytes, instruction_bytes}

-- the sum of a function's rows
abbrev pub rows_of : Function → ℕ
rows_of f = entry_bytes f + sum_by (instruction_bytes f) f.code

-- the rows of each function sum to 1 MiB at most
pub record IsShortProgram (p : Program) : Type 0 where
  pub each : (k : ℕ) (f : Function) → slice_get p.functions k ≡ Some f → rows_of f ≤ 2 ^ 20

-- With all branches long, each jump of a sound program reaches its label, wherever its items are placed: the premise of the clause `reaches` of `assemble`.
abbrev pub JumpsReach : Type 0
JumpsReach = (p : Program) (base : ℕ) → IsSoundProgram p → IsShortProgram p → AllReach base (program_items p)
