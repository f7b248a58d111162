-- How an instruction of the new code fits one of the old code.
use Rattle.std.proofs.Common.{◌≡◌, ℕ, ◌+◌, ◌-◌, List, Some, Bool, true, false}
use Rattle.std.specs.Prelude.{slice_get}
use Rattle.rv32.specs.declared.instr.Test.{Test}
use Rattle.frames_code.specs.declared.code.Operand.{Operand}
use Rattle.frames_code.specs.declared.code.Instruction.{Instruction}
use Rattle.frames_code.specs.declared.code.Instruction.TheVariants as instruction
use Rattle.frames_layout.specs.declared.walks.Onward.{Onward}
use Rattle.frames_layout.specs.layer.Plans.{onward, owed, most_onward}
use Rattle.frames_layout.proofs.Moving.{IsStraight}
use Rattle.frames_layout.proofs.Walking.{Found}

-- At j k: where the new code is at j, the old is at k; owes j: whether the old has passed a jump more
module _ (old new : List Instruction) (At : ℕ → ℕ → Type 0) (owes : ℕ → Bool) where
  -- from k the old code comes to where it is when the new is at j
  pub record OntoIn (least k j : ℕ) : Type 0 where
    pub to : ℕ
    pub at : At j to
    pub found : Found old most_onward least to k

  -- a call that waits
  abbrev pub BackIn : ℕ → ℕ → Type 0
  BackIn k j = (owes j ≡ false) × OntoIn 0 k j

  pub data FitsIn (j k : ℕ) (x : Instruction) : Type 0 where
    straight : (is : IsStraight x) → (there : slice_get new j ≡ Some x) → (on : OntoIn (owed (owes (j + 1)) - owed (owes j)) (k + 1) (j + 1)) → FitsIn j k x
    jumps : (to place : ℕ) → (is : x ≡ instruction.Jump to) → (there : slice_get new j ≡ Some (instruction.Jump place)) → (on : OntoIn (owed (owes place) - owed (owes j)) to place) → FitsIn j k x
    inserted : (w : Onward) → (place : ℕ) → (is : onward k x ≡ Some w) → (owing : owes j ≡ true) → (there : slice_get new j ≡ Some (instruction.Jump place))
        → (on : OntoIn (owed (owes place) - w.jumps) w.to place) → FitsIn j k x
    branches : (t : Test) → (y z : Operand) → (to place : ℕ) → (is : x ≡ instruction.Branch t y z to) → (there : slice_get new j ≡ Some (instruction.Branch t y z place))
        → (on : OntoIn (owed (owes (j + 1)) - owed (owes j)) (k + 1) (j + 1)) → (far : OntoIn (owed (owes place) - owed (owes j)) to place) → FitsIn j k x
    calls : (g : ℕ) → (is : x ≡ instruction.Call g) → (there : slice_get new j ≡ Some (instruction.Call g)) → (back : BackIn (k + 1) (j + 1)) → FitsIn j k x
    exits : (is : x ≡ instruction.Exit) → (there : slice_get new j ≡ Some instruction.Exit) → FitsIn j k x
    returns : (is : x ≡ instruction.Return) → (there : slice_get new j ≡ Some instruction.Return) → FitsIn j k x
