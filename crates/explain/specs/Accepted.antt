-- A program for which no fault is reported.
use Rattle.std.specs.Prelude.{◌≡◌, ◌⊎◌, ◌&&◌, ◌||◌, ℕ, Bool, true, false, List, nat_le}
use Rattle.srcset.specs.Files.{Files}
use Rattle.srcset.specs.declared.fault.Fault.{Fault}
use Rattle.cc.specs.declared.compiling.Built.{Built}
use Rattle.cc.specs.Made.{IsMade}
use Rattle.cc.specs.Refused.{IsRefused}
use Rattle.explain.specs.declared.explaining.Stage.{Stage}
use Rattle.explain.specs.declared.explaining.Stage.TheVariants as stage

-- the compiler returns the file of the program in this file, with such a stack
pub record IsAccepted (stack : ℕ) (set : Files) (name : List ℕ) : Type 0 where
  pub built : Built
  pub made : IsMade stack set name built

-- whether a fault of this number is met so far: those of preprocessing are 1xx, 2xx, its limits, and 8xx and 9xx
abbrev pub is_met : Stage → ℕ → Bool
is_met stage.Preprocessing code = (nat_le 101 code && nat_le code 235) || (nat_le 701 code && nat_le code 708) || (nat_le 801 code && nat_le code 907)
is_met stage.Whole code = true

-- the set is refused for a fault that is met only later
pub record IsRefusedLater (at : Stage) (stack : ℕ) (set : Files) (name : List ℕ) : Type 0 where
  pub fault : Fault
  pub refused : IsRefused stack set name fault
  pub later : is_met at fault.code ≡ false

-- no fault is met so far
abbrev pub IsPassed : Stage → ℕ → Files → List ℕ → Type 0
IsPassed at stack set name = IsAccepted stack set name ⊎ IsRefusedLater at stack set name
