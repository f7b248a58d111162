-- Functions and programs whose code is laid out anew.
use Rattle.std.specs.Prelude.{◌≡◌, ◌≤◌, ℕ, true, List, [], ◌∷◌, length, slice_get, sum_by, max}
use Rattle.frames_code.specs.declared.code.Instruction.{Instruction}
use Rattle.frames_code.specs.Code.{Function, Program}
use Rattle.frames.specs.Costs.{code_bytes}
use Rattle.frames_opt.specs.layer.Functions.{with_code}
use Rattle.frames_layout.specs.LaidOut.{IsLaidOut}
use Rattle.frames_layout.specs.declared.plan.Stand.{Stand}
use Rattle.frames_layout.specs.layer.Plans.{all_made, all_fit, begins_in}

-- the new code is that of a plan, which fits the old code and is no longer
pub record IsPlanned (old new : List Instruction) : Type 0 where
  pub plan : List Stand
  pub first : begins_in plan ≡ true
  pub right : all_fit old plan 0 plan ≡ true
  pub few : length plan ≤ length old
  pub is : new ≡ all_made old plan

pub data IsLaidOutCode (old new : List Instruction) : Type 0 where
  stayed : (is : new ≡ old) → IsLaidOutCode old new
  planned : (is : IsPlanned old new) → IsLaidOutCode old new

-- its code has at most so many bytes, or no more than before
pub record IsLaidOutFunction (most : ℕ) (f g : Function) : Type 0 where
  pub code : IsLaidOutCode f.code g.code
  pub is : g ≡ with_code f g.code
  pub bytes : sum_by code_bytes g.code ≤ max most (sum_by code_bytes f.code)

abbrev pub AreLaidOut : List Function → List Function → Type 0
AreLaidOut [] [] = Unit {0}
AreLaidOut [] (g ∷ gs) = ⊥
AreLaidOut (f ∷ fs) [] = ⊥
AreLaidOut (f ∷ fs) (g ∷ gs) = (IsLaidOutCode f.code g.code × (g ≡ with_code f g.code)) × AreLaidOut fs gs

-- a program of such functions does the same
abbrev pub FunctionsAreLaidOut : Type 0
FunctionsAreLaidOut = (p q : Program) → AreLaidOut p.functions q.functions → q.statics ≡ p.statics → q.main ≡ p.main → IsLaidOut p q
