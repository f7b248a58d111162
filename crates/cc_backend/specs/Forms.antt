-- The relation of flat code to the three-address code that it was made of, apart from its runs.
use Rattle.std.specs.Prelude.{◌≡◌, ◌≤◌, ℕ, length, slice_get, Some}
use Rattle.tac_code.specs.Code as tac
use Rattle.tac_code.specs.Costs as tac_costs
use Rattle.frames_code.specs.Code as flat
use Rattle.frames_code.specs.Sound.{IsSoundProgram}
use Rattle.frames.specs.Data.{data_of}
use Rattle.frames.specs.Costs as flat_costs

-- function h is optimised code of g: its frame takes no more of the stack, and its code no more bytes, where the size of the frame is known
pub record IsOptimisedCodeOf (g : tac.Function) (h : flat.Function) : Type 0 where
  pub frame : flat.frame_bytes h ≤ tac_costs.call_bytes g
  pub code : flat_costs.function_bytes_in h ≤ tac_costs.function_bytes g

-- it is sound, has the same data, and for each function one whose frame and code are no larger
pub record IsFormOf (q : tac.Program) (f : flat.Program) : Type 0 where
  pub sound : IsSoundProgram f
  pub statics : f.statics ≡ data_of q
  pub main : f.main ≡ q.main
  pub count : length f.functions ≡ length q.functions
  pub each : (k : ℕ) (g : tac.Function) (h : flat.Function) → slice_get q.functions k ≡ Some g → slice_get f.functions k ≡ Some h → IsOptimisedCodeOf g h
