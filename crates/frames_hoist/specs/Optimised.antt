-- The relation of a flat program to an optimised one that it simulates: the second costs no more, where the size of each frame is known.
use Rattle.std.specs.Prelude.{◌≡◌, ◌≤◌, ℕ, ◌+◌, List, map, slice_get, Some}
use Rattle.frames_code.specs.Code.{Function, Program, frame_bytes}
use Rattle.frames_code.specs.Run.{run, start}
use Rattle.frames_code.specs.Costs.{entry_cost, spent, spent_with_entry}
use Rattle.frames_code.specs.Sound.{IsSoundProgram}
use Rattle.frames.specs.Costs.{function_bytes, function_bytes_in}
use Rattle.frames_opt.specs.Simplified.{IsDefined, RunsAlike, CallsAlike, IsSimplified}

-- Program q is p optimised: after each number of steps it has done the same, has the same calls active, and has cost no more with main's entry; its frames
-- have the same bytes, and the code of each function no more with its entry; it calls and returns only where p does.
pub record IsOptimised (p q : Program) : Type 0 where
  pub runs : RunsAlike p q
  pub at_calls : CallsAlike p q
  pub costs : (n : ℕ) (input : List ℕ) → IsDefined (run p n (start p input)) → spent_with_entry q n (start q input) ≤ entry_cost + spent p n (start p input)
  pub frames : map frame_bytes q.functions ≡ map frame_bytes p.functions
  pub bytes : (k : ℕ) (f g : Function) → slice_get p.functions k ≡ Some f → slice_get q.functions k ≡ Some g → function_bytes_in g ≤ function_bytes f
  pub sound : IsSoundProgram p → IsSoundProgram q
  pub statics : q.statics ≡ p.statics
  pub main : q.main ≡ p.main

-- simplified first, and then optimised
abbrev pub OptimisedInTurn : Type 0
OptimisedInTurn = (p q r : Program) → IsSimplified p q → IsOptimised q r → IsOptimised p r
