-- Words of frames under other numbers: the relation between programs that differ in these alone.
use Rattle.std.specs.Prelude.{◌≡◌, ◌<◌, ◌≤◌, ℕ, List, [], ◌∷◌, map}
use Rattle.frames_code.specs.declared.code.Operand.{Operand}
use Rattle.frames_code.specs.declared.code.Operand.TheVariants as operand
use Rattle.frames_code.specs.declared.code.Target.{Target}
use Rattle.frames_code.specs.declared.code.Target.TheVariants as target
use Rattle.frames_code.specs.declared.code.Location.{Location}
use Rattle.frames_code.specs.declared.code.Location.TheVariants as location
use Rattle.frames_code.specs.declared.code.Instruction.{Instruction}
use Rattle.frames_code.specs.declared.code.Instruction.TheVariants as instruction
use Rattle.frames_code.specs.Code.{Function, Program}

-- a word c becomes the word `to c`

abbrev pub renumbered_operand : (ℕ → ℕ) → Operand → Operand
renumbered_operand to (operand.Temporary k) = operand.Temporary k
renumbered_operand to (operand.Cell c) = operand.Cell (to c)
renumbered_operand to (operand.Constant v) = operand.Constant v
renumbered_operand to (operand.Argument k) = operand.Argument k

abbrev pub renumbered_target : (ℕ → ℕ) → Target → Target
renumbered_target to (target.Temporary k) = target.Temporary k
renumbered_target to (target.Cell c) = target.Cell (to c)

abbrev pub renumbered_location : (ℕ → ℕ) → Location → Location
renumbered_location to (location.Statics o) = location.Statics o
renumbered_location to (location.Frame o) = location.Frame o
renumbered_location to (location.At x) = location.At (renumbered_operand to x)
renumbered_location to (location.Indexed b y size) = location.Indexed b (renumbered_operand to y) size

abbrev pub renumbered : (ℕ → ℕ) → Instruction → Instruction
renumbered to instruction.Nothing = instruction.Nothing
renumbered to (instruction.Move d x) = instruction.Move (renumbered_target to d) (renumbered_operand to x)
renumbered to (instruction.Compute o d x y) = instruction.Compute o (renumbered_target to d) (renumbered_operand to x) (renumbered_operand to y)
renumbered to (instruction.Convert c d x) = instruction.Convert c (renumbered_target to d) (renumbered_operand to x)
renumbered to (instruction.Load w d l) = instruction.Load w (renumbered_target to d) (renumbered_location to l)
renumbered to (instruction.Store w x l) = instruction.Store w (renumbered_operand to x) (renumbered_location to l)
renumbered to (instruction.Address d l) = instruction.Address (renumbered_target to d) (renumbered_location to l)
renumbered to (instruction.Element d x y size) = instruction.Element (renumbered_target to d) (renumbered_operand to x) (renumbered_operand to y) size
renumbered to (instruction.Jump k) = instruction.Jump k
renumbered to (instruction.Branch t x y k) = instruction.Branch t (renumbered_operand to x) (renumbered_operand to y) k
renumbered to (instruction.Call f) = instruction.Call f
renumbered to instruction.PutByte = instruction.PutByte
renumbered to instruction.GetByte = instruction.GetByte
renumbered to instruction.Exit = instruction.Exit
renumbered to instruction.Return = instruction.Return

abbrev pub renumbered_function : (ℕ → ℕ) → (resident : ℕ) → Function → Function
renumbered_function to resident f =
    record { code = map (renumbered to) f.code; cells = f.cells; resident = resident; area = f.area; outgoing = f.outgoing; gives = f.gives }

-- Function g is f with its words under other numbers: word c is `to c`, and each number is that of one word, `from` it. Words of the frame stay
-- words of the frame. No more of them may live in registers.
pub record IsRenumberedFunction (f g : Function) : Type 0 where
  pub to : ℕ → ℕ
  pub from : ℕ → ℕ
  pub from_to : (c : ℕ) → from (to c) ≡ c
  pub to_from : (c : ℕ) → to (from c) ≡ c
  pub inside : (c : ℕ) → c < f.cells → to c < f.cells
  pub few : g.resident ≤ f.resident
  pub is : g ≡ renumbered_function to g.resident f

abbrev pub AreRenumbered : List Function → List Function → Type 0
AreRenumbered [] [] = Unit {0}
AreRenumbered [] (g ∷ gs) = ⊥
AreRenumbered (f ∷ fs) [] = ⊥
AreRenumbered (f ∷ fs) (g ∷ gs) = IsRenumberedFunction f g × AreRenumbered fs gs

-- program q is p with the words of its frames under other numbers
pub record IsRenumbered (p q : Program) : Type 0 where
  pub functions : AreRenumbered p.functions q.functions
  pub statics : q.statics ≡ p.statics
  pub main : q.main ≡ p.main
