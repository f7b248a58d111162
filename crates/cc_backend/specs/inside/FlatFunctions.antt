-- Flat code of the functions of a program, which are made one by one.
use Rattle.std.specs.Prelude.{◌≡◌, ◌≤◌, ℕ, sum_by, Bool, nat_eq, List, length, slice_get, Some}
use Rattle.typing_spec.specs.Program as typed
use Rattle.tac_code.specs.Code as tac
use Rattle.tac.specs.layer.Functions.{IsFunctionWith}
use Rattle.frames_code.specs.Code as flat
use Rattle.frames.specs.Costs.{code_bytes}
use Rattle.frames.specs.Layout.{Starts}
use Rattle.frames.specs.Translated.{flat_function}
use Rattle.frames_opt.specs.layer.Functions.{IsSimplerFunction}
use Rattle.frames_reach.specs.layer.Functions.{IsReachedFunction}
use Rattle.frames_layout.specs.layer.Functions.{IsLaidOutFunction}
use Rattle.frames_hoist.specs.layer.Functions.{IsHoistedFunction}
use Rattle.frames_leaf.specs.layer.Functions.{IsLeafAllocated}
use Rattle.frames_regalloc.specs.Renumbered.{IsRenumberedFunction}

-- h is flat code of f, which is main or is not, where literals and static objects begin at s
pub record IsFlatFunctionOf (p : typed.Program) (s : Starts) (is_main : Bool) (f : typed.Function) (h : flat.Function) : Type 0 where
  pub code : tac.Function
  pub lowered : IsFunctionWith p is_main f code
  pub simpler : flat.Function
  pub simplified : IsSimplerFunction (flat_function s code) simpler
  pub shorter : flat.Function
  pub reached : IsReachedFunction simpler shorter
  pub most : ℕ
  pub most_is : most ≤ sum_by code_bytes (flat_function s code).code
  pub laid : flat.Function
  pub laid_out : IsLaidOutFunction most shorter laid
  pub better : flat.Function
  pub hoisted : IsHoistedFunction laid better
  pub last : flat.Function
  pub allocated : IsLeafAllocated better last
  pub renumbered : IsRenumberedFunction last h

-- these are flat code of the first `number` of the functions of a program
pub record AreFlatFunctionsOf (p : typed.Program) (s : Starts) (number : ℕ) (all : List flat.Function) : Type 0 where
  pub count : length all ≡ number
  pub each : (n : ℕ) (f : typed.Function) (h : flat.Function) → slice_get p.functions n ≡ Some f → slice_get all n ≡ Some h
      → IsFlatFunctionOf p s (nat_eq n p.main) f h
