-- The first instructions of a function, and the first functions of a program.
use Rattle.std.specs.Prelude.{◌≡◌, ◌<◌, ℕ, List, slice_get, Some}
use Rattle.frames_code.specs.declared.code.Instruction.{Instruction}
use Rattle.frames_code.specs.Code.{Function}
use Rattle.frames_code.specs.Sound.{InstructionFits, FunctionFits}

pub record CodeFits (n : ℕ) (f : Function) (count : ℕ) : Type 0 where
  pub each : (k : ℕ) (x : Instruction) → k < count → slice_get f.code k ≡ Some x → InstructionFits n f x

pub record FunctionsFit (n : ℕ) (fs : List Function) (count : ℕ) : Type 0 where
  pub each : (k : ℕ) (f : Function) → k < count → slice_get fs k ≡ Some f → FunctionFits n f
