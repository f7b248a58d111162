-- Code without the instructions that no run reaches.
use Rattle.std.specs.Prelude.{◌≡◌, ℕ, ◌+◌, ◌&&◌, Bool, true, if◌then◌else◌, List, [], ◌∷◌, get_or}
use Rattle.frames_code.specs.declared.code.Instruction.{Instruction}
use Rattle.frames_code.specs.declared.code.Instruction.TheVariants as instruction
use Rattle.frames_code.specs.Code.{Function, Program}
use Rattle.frames_opt.specs.Simplified.{IsSimplified}
use Rattle.frames_opt.specs.layer.Functions.{with_code}

-- a run may come to an instruction that is marked; past the marks all are
abbrev pub is_marked : List Bool → ℕ → Bool
is_marked marks k = get_or marks k true

-- wherever instruction k leads is marked
abbrev pub leads : List Bool → ℕ → Instruction → Bool
leads marks k instruction.Nothing = is_marked marks (k + 1)
leads marks k (instruction.Move d x) = is_marked marks (k + 1)
leads marks k (instruction.Compute o d x y) = is_marked marks (k + 1)
leads marks k (instruction.Convert c d x) = is_marked marks (k + 1)
leads marks k (instruction.Load w d l) = is_marked marks (k + 1)
leads marks k (instruction.Store w x l) = is_marked marks (k + 1)
leads marks k (instruction.Address d l) = is_marked marks (k + 1)
leads marks k (instruction.Element d x y size) = is_marked marks (k + 1)
leads marks k (instruction.Jump to) = is_marked marks to
leads marks k (instruction.Branch t x y to) = is_marked marks (k + 1) && is_marked marks to
leads marks k (instruction.Call f) = is_marked marks (k + 1)
leads marks k instruction.PutByte = is_marked marks (k + 1)
leads marks k instruction.GetByte = is_marked marks (k + 1)
leads marks k instruction.Exit = true
leads marks k instruction.Return = true

abbrev pub is_right : List Bool → ℕ → Instruction → Bool
is_right marks k x = if is_marked marks k then leads marks k x else true

-- all instructions from number k on
abbrev pub are_right : List Bool → ℕ → List Instruction → Bool
are_right marks k [] = true
are_right marks k (x ∷ xs) = is_right marks k x && are_right marks (k + 1) xs

abbrev pub kept : List Bool → ℕ → Instruction → Instruction
kept marks k x = if is_marked marks k then x else instruction.Nothing

abbrev pub all_kept : List Bool → ℕ → List Instruction → List Instruction
all_kept marks k [] = []
all_kept marks k (x ∷ xs) = kept marks k x ∷ all_kept marks (k + 1) xs

-- the first instruction is marked, and what follows on marked ones; the others do nothing
pub record IsReachedCode (old new : List Instruction) : Type 0 where
  pub marks : List Bool
  pub first : is_marked marks 0 ≡ true
  pub right : are_right marks 0 old ≡ true
  pub is : new ≡ all_kept marks 0 old

pub record IsReachedFunction (f g : Function) : Type 0 where
  pub code : IsReachedCode f.code g.code
  pub is : g ≡ with_code f g.code

abbrev pub AreReached : List Function → List Function → Type 0
AreReached [] [] = Unit {0}
AreReached [] (g ∷ gs) = ⊥
AreReached (f ∷ fs) [] = ⊥
AreReached (f ∷ fs) (g ∷ gs) = IsReachedFunction f g × AreReached fs gs

-- a program of such functions does the same
abbrev pub FunctionsAreReached : Type 0
FunctionsAreReached = (p q : Program) → AreReached p.functions q.functions → q.statics ≡ p.statics → q.main ≡ p.main → IsSimplified p q

-- what was simplified twice is simplified
abbrev pub SimplifiedInTurn : Type 0
SimplifiedInTurn = (p q r : Program) → IsSimplified p q → IsSimplified q r → IsSimplified p r
