-- Flat code made better: simplified in place, laid out anew, and then optimised in place again.
use Rattle.std.specs.Prelude.{◌≡◌, ◌≤◌, ℕ, slice_get, sum_by, Some}
use Rattle.frames_code.specs.Code.{Function, Program}
use Rattle.frames.specs.Costs.{code_bytes}
use Rattle.frames_opt.specs.Simplified.{IsSimplified}
use Rattle.frames_layout.specs.LaidOut.{IsLaidOut}
use Rattle.frames_hoist.specs.Optimised.{IsOptimised}

-- laid out anew, the code of each function has no more bytes than at first
pub record IsBetter (plain best : Program) : Type 0 where
  pub simple : Program
  pub simplified : IsSimplified plain simple
  pub laid : Program
  pub laid_out : IsLaidOut simple laid
  pub no_longer : (k : ℕ) (f g : Function) → slice_get plain.functions k ≡ Some f → slice_get laid.functions k ≡ Some g → sum_by code_bytes g.code ≤ sum_by code_bytes f.code
  pub optimised : IsOptimised laid best
