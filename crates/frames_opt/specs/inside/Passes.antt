-- The first pass over the code of a function, by what is known.
use Rattle.std.specs.Prelude.{◌≡◌, ℕ, ◌+◌, Bool, true, if◌then◌else◌, List, [], ◌∷◌, set, get_or, slice_get, Option, Some, None}
use Rattle.frames_code.specs.declared.code.Instruction.{Instruction}
use Rattle.frames_code.specs.declared.code.Instruction.TheVariants as instruction
use Rattle.frames_opt.specs.declared.room.Room.{Room}
use Rattle.frames_opt.specs.declared.facts.Known.{Known}
use Rattle.frames_opt.specs.inside.Facts.{nothing, behind}
use Rattle.frames_opt.specs.inside.Rules.{simpler}

-- ---- where jumps lead

abbrev pub jump_of : Instruction → Option ℕ
jump_of instruction.Nothing = None
jump_of (instruction.Move d x) = None
jump_of (instruction.Compute o d x y) = None
jump_of (instruction.Convert c d x) = None
jump_of (instruction.Load w d l) = None
jump_of (instruction.Store w x l) = None
jump_of (instruction.Address d l) = None
jump_of (instruction.Element d x y size) = None
jump_of (instruction.Jump to) = Some to
jump_of (instruction.Branch t x y to) = Some to
jump_of (instruction.Call f) = None
jump_of instruction.PutByte = None
jump_of instruction.GetByte = None
jump_of instruction.Exit = None
jump_of instruction.Return = None

abbrev pub is_marked : List Bool → ℕ → Bool
is_marked marks k = get_or marks k true

abbrev pub marked_by : List Bool → Option ℕ → List Bool
marked_by marks None = marks
marked_by marks (Some k) = set marks k true

abbrev pub marked : List Bool → Instruction → List Bool
marked marks x = marked_by marks (jump_of x)

abbrev pub all_marked : List Bool → List Instruction → List Bool
all_marked marks [] = marks
all_marked marks (x ∷ xs) = all_marked (marked marks x) xs

abbrev pub AreMarked : List Bool → List Instruction → Type 0
AreMarked marks xs = (k to : ℕ) (x : Instruction) → slice_get xs k ≡ Some x → jump_of x ≡ Some to → is_marked marks to ≡ true

-- ---- forward: by the known facts

abbrev pub fresh : Bool → List Known → List Known
fresh m facts = if m then nothing else facts

-- from instruction i on
abbrev pub forward : Room → List Bool → ℕ → List Known → List Instruction → List Instruction
forward room marks i facts [] = []
forward room marks i facts (x ∷ xs) =
    simpler room.area (fresh (is_marked marks i) facts) x
    ∷ forward room marks (i + 1) (behind room (fresh (is_marked marks i) facts) (simpler room.area (fresh (is_marked marks i) facts) x)) xs
