-- Code that stays fits itself.
use Rattle.std.proofs.Common.{◌≡◌, ◌≤◌, ℕ, zero, suc, ◌+◌, ◌-◌, List, Some, Bool, false, refl, sym, ap, ◌∙◌, subst, arith}
use Rattle.std.specs.Prelude.{slice_get}
use Rattle.frames_code.specs.declared.code.Instruction.{Instruction}
use Rattle.frames_code.specs.declared.code.Instruction.TheVariants as instruction
use Rattle.frames_layout.specs.layer.Plans.{most_onward}
use Rattle.frames_layout.proofs.Walking.{Found}
use Rattle.frames_layout.proofs.Fitting.{OntoIn, FitsIn, straight, jumps, branches, calls, exits, returns}

abbrev pub Same : ℕ → ℕ → Type 0
Same j k = j ≡ k

abbrev pub none_owed : ℕ → Bool
none_owed j = false

module _ (old new : List Instruction) (is : new ≡ old) where
  here : (k : ℕ) → OntoIn old new Same none_owed 0 k k
  here k = record { to = k; at = refl; found = record { length = 0; jumps = 0; short = omega arith; enough = omega arith; walk = (refl, refl) } }

  stays : (k : ℕ) (x : Instruction) → slice_get new k ≡ Some x → FitsIn old new Same none_owed k k x
  stays k instruction.Nothing e = straight tt e (here (k + 1))
  stays k (instruction.Move d x) e = straight tt e (here (k + 1))
  stays k (instruction.Compute o d x y) e = straight tt e (here (k + 1))
  stays k (instruction.Convert c d x) e = straight tt e (here (k + 1))
  stays k (instruction.Load w d l) e = straight tt e (here (k + 1))
  stays k (instruction.Store w x l) e = straight tt e (here (k + 1))
  stays k (instruction.Address d l) e = straight tt e (here (k + 1))
  stays k (instruction.Element d x y size) e = straight tt e (here (k + 1))
  stays k (instruction.Jump to) e = jumps to to refl e (here to)
  stays k (instruction.Branch t x y to) e = branches t x y to to refl e (here (k + 1)) (here to)
  stays k (instruction.Call g) e = calls g refl e (refl, here (k + 1))
  stays k instruction.PutByte e = straight tt e (here (k + 1))
  stays k instruction.GetByte e = straight tt e (here (k + 1))
  stays k instruction.Exit e = exits refl e
  stays k instruction.Return e = returns refl e

  pub each_stays : (j k : ℕ) (x : Instruction) → Same j k → slice_get old k ≡ Some x → FitsIn old new Same none_owed j k x
  each_stays j k x same e = subst (λ i. FitsIn old new Same none_owed i k x) (sym same) (stays k x (ap (λ xs. slice_get xs k) is ∙ e))
