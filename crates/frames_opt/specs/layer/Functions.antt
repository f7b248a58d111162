-- Functions and programs of simpler code.
use Rattle.std.specs.Prelude.{◌≡◌, ◌≤◌, Bool, true, List, [], ◌∷◌, sum_by}
use Rattle.frames_code.specs.declared.code.Instruction.{Instruction}
use Rattle.frames_code.specs.Code.{Function, Program}
use Rattle.frames.specs.Costs.{code_bytes}
use Rattle.frames_opt.specs.Simplified.{IsSimplified}
use Rattle.frames_opt.specs.declared.room.Room.{Room}
use Rattle.frames_opt.specs.inside.Facts.{nothing, room_of}
use Rattle.frames_opt.specs.declared.rows.Row.{Row}
use Rattle.frames_opt.specs.inside.Passes.{AreMarked, forward}
use Rattle.frames_opt.specs.inside.Sweep.{offers, swept, are_right}

-- code that went through both passes, in a function with this room
pub record IsImproved (room : Room) (old new : List Instruction) : Type 0 where
  pub marks : List Bool
  pub are : AreMarked marks old
  pub states : List Row
  pub right : are_right room states (offers room marks 0 nothing old) 0 (forward room marks 0 nothing old) ≡ true
  pub is : new ≡ swept states 0 (forward room marks 0 nothing old)

pub data IsSimplerCode (room : Room) (old new : List Instruction) : Type 0 where
  stayed : (is : new ≡ old) → IsSimplerCode room old new
  improved : (is : IsImproved room old new) → IsSimplerCode room old new

abbrev pub with_code : Function → List Instruction → Function
with_code f code = record { code = code; cells = f.cells; resident = f.resident; area = f.area; outgoing = f.outgoing; gives = f.gives }

pub record IsSimplerFunction (f g : Function) : Type 0 where
  pub code : IsSimplerCode (room_of f) f.code g.code
  pub is : g ≡ with_code f g.code
  pub bytes : sum_by code_bytes g.code ≤ sum_by code_bytes f.code

abbrev pub AreSimpler : List Function → List Function → Type 0
AreSimpler [] [] = Unit {0}
AreSimpler [] (g ∷ gs) = ⊥
AreSimpler (f ∷ fs) [] = ⊥
AreSimpler (f ∷ fs) (g ∷ gs) = IsSimplerFunction f g × AreSimpler fs gs

-- so functions that were made simpler one by one are a program made simpler
abbrev pub FunctionsAreSimplified : Type 0
FunctionsAreSimplified = (p q : Program) → AreSimpler p.functions q.functions → q.statics ≡ p.statics → q.main ≡ p.main → IsSimplified p q
