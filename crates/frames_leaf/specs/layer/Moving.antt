-- Words of the frame that live in temporaries instead: the first one in temporary t, the next one in the temporary after it, and so on.
use Rattle.std.specs.Prelude.{ℕ, ◌+◌, ◌==◌, ◌&&◌, nat_lt, Bool, true, false, if◌then◌else◌, List, [], ◌∷◌, Option, Some, None}
use Rattle.frames_code.specs.declared.code.Operand.{Operand}
use Rattle.frames_code.specs.declared.code.Operand.TheVariants as operand
use Rattle.frames_code.specs.declared.code.Target.{Target}
use Rattle.frames_code.specs.declared.code.Target.TheVariants as target
use Rattle.frames_code.specs.declared.code.Location.{Location}
use Rattle.frames_code.specs.declared.code.Location.TheVariants as location
use Rattle.frames_code.specs.declared.code.Instruction.{Instruction}
use Rattle.frames_code.specs.declared.code.Instruction.TheVariants as instruction

-- ---- what is asked of each instruction: it calls nothing, puts and gets nothing, and names only temporaries below t

abbrev pub names_below : ℕ → Operand → Bool
names_below t (operand.Temporary k) = nat_lt k t
names_below t (operand.Cell c) = true
names_below t (operand.Constant v) = true
names_below t (operand.Argument k) = true

abbrev pub writes_below : ℕ → Target → Bool
writes_below t (target.Temporary k) = nat_lt k t
writes_below t (target.Cell c) = true

abbrev pub lies_below : ℕ → Location → Bool
lies_below t (location.Statics o) = true
lies_below t (location.Frame o) = true
lies_below t (location.At x) = names_below t x
lies_below t (location.Indexed b y size) = names_below t y

abbrev pub is_leaf : ℕ → Instruction → Bool
is_leaf t instruction.Nothing = true
is_leaf t (instruction.Move d x) = writes_below t d && names_below t x
is_leaf t (instruction.Compute o d x y) = writes_below t d && (names_below t x && names_below t y)
is_leaf t (instruction.Convert c d x) = writes_below t d && names_below t x
is_leaf t (instruction.Load w d l) = writes_below t d && lies_below t l
is_leaf t (instruction.Store w x l) = names_below t x && lies_below t l
is_leaf t (instruction.Address d l) = writes_below t d && lies_below t l
is_leaf t (instruction.Element d x y size) = writes_below t d && (names_below t x && names_below t y)
is_leaf t (instruction.Jump to) = true
is_leaf t (instruction.Branch b x y to) = names_below t x && names_below t y
is_leaf t (instruction.Call f) = false
is_leaf t instruction.PutByte = false
is_leaf t instruction.GetByte = false
is_leaf t instruction.Exit = true
is_leaf t instruction.Return = true

-- ---- where a word lives

abbrev pub home_of : ℕ → List ℕ → ℕ → Option ℕ
home_of t [] c = None
home_of t (w ∷ words) c = if w == c then Some t else home_of (t + 1) words c

abbrev pub operand_in : ℕ → Option ℕ → Operand
operand_in c None = operand.Cell c
operand_in c (Some t) = operand.Temporary t

abbrev pub target_in : ℕ → Option ℕ → Target
target_in c None = target.Cell c
target_in c (Some t) = target.Temporary t

-- ---- instructions

abbrev pub moved_operand : ℕ → List ℕ → Operand → Operand
moved_operand t words (operand.Temporary k) = operand.Temporary k
moved_operand t words (operand.Cell c) = operand_in c (home_of t words c)
moved_operand t words (operand.Constant v) = operand.Constant v
moved_operand t words (operand.Argument k) = operand.Argument k

abbrev pub moved_target : ℕ → List ℕ → Target → Target
moved_target t words (target.Temporary k) = target.Temporary k
moved_target t words (target.Cell c) = target_in c (home_of t words c)

abbrev pub moved_location : ℕ → List ℕ → Location → Location
moved_location t words (location.Statics o) = location.Statics o
moved_location t words (location.Frame o) = location.Frame o
moved_location t words (location.At x) = location.At (moved_operand t words x)
moved_location t words (location.Indexed b y size) = location.Indexed b (moved_operand t words y) size

abbrev pub moved : ℕ → List ℕ → Instruction → Instruction
moved t words instruction.Nothing = instruction.Nothing
moved t words (instruction.Move d x) = instruction.Move (moved_target t words d) (moved_operand t words x)
moved t words (instruction.Compute o d x y) = instruction.Compute o (moved_target t words d) (moved_operand t words x) (moved_operand t words y)
moved t words (instruction.Convert c d x) = instruction.Convert c (moved_target t words d) (moved_operand t words x)
moved t words (instruction.Load w d l) = instruction.Load w (moved_target t words d) (moved_location t words l)
moved t words (instruction.Store w x l) = instruction.Store w (moved_operand t words x) (moved_location t words l)
moved t words (instruction.Address d l) = instruction.Address (moved_target t words d) (moved_location t words l)
moved t words (instruction.Element d x y size) = instruction.Element (moved_target t words d) (moved_operand t words x) (moved_operand t words y) size
moved t words (instruction.Jump to) = instruction.Jump to
moved t words (instruction.Branch b x y to) = instruction.Branch b (moved_operand t words x) (moved_operand t words y) to
moved t words (instruction.Call f) = instruction.Call f
moved t words instruction.PutByte = instruction.PutByte
moved t words instruction.GetByte = instruction.GetByte
moved t words instruction.Exit = instruction.Exit
moved t words instruction.Return = instruction.Return
