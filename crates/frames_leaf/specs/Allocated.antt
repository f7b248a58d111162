-- The relation of a flat program to one that has other places for the words of its frames: the second simulates it at no more cost, where the size of each
-- frame is known.
use Rattle.std.specs.Prelude.{◌≡◌, ◌≤◌, ℕ, List, map, slice_get, Some}
use Rattle.frames_code.specs.Code.{Function, Program, frame_bytes}
use Rattle.frames_code.specs.Run.{run, start}
use Rattle.frames_code.specs.Costs.{spent_with_entry}
use Rattle.frames_code.specs.Sound.{IsSoundProgram}
use Rattle.frames.specs.Costs.{function_bytes_in}
use Rattle.frames_opt.specs.Simplified.{IsDefined, RunsAlike, CallsAlike}
use Rattle.frames_hoist.specs.Optimised.{IsOptimised}

-- Program q does what p does: after each number of steps it has done the same, has the same calls active, and has cost no more with main's entry; its frames
-- have the same bytes, and the code of each function no more; it calls and returns only where p does.
pub record IsAllocated (p q : Program) : Type 0 where
  pub runs : RunsAlike p q
  pub at_calls : CallsAlike p q
  pub costs : (n : ℕ) (input : List ℕ) → IsDefined (run p n (start p input)) → spent_with_entry q n (start q input) ≤ spent_with_entry p n (start p input)
  pub frames : map frame_bytes q.functions ≡ map frame_bytes p.functions
  pub bytes : (k : ℕ) (f g : Function) → slice_get p.functions k ≡ Some f → slice_get q.functions k ≡ Some g → function_bytes_in g ≤ function_bytes_in f
  pub sound : IsSoundProgram p → IsSoundProgram q
  pub statics : q.statics ≡ p.statics
  pub main : q.main ≡ p.main

-- optimised first, and then with registers allocated
abbrev pub AllocatedInTurn : Type 0
AllocatedInTurn = (p q r : Program) → IsOptimised p q → IsAllocated q r → IsOptimised p r
