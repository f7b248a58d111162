-- The second pass: what writes a dead temporary is left out, and an index stays in a temporary where the reference to its element would be.
use Rattle.std.specs.Prelude.{ℕ, ◌+◌, ◌/◌, ◌%◌, ◌^◌, ◌==◌, ◌&&◌, ◌||◌, nat_lt, not, Bool, true, false, if◌then◌else◌, List, [], ◌∷◌, length, get_or, bit_and, bit_or, Option, Some, None}
use Rattle.frames_code.specs.declared.code.Operand.{Operand}
use Rattle.frames_code.specs.declared.code.Operand.TheVariants as operand
use Rattle.frames_code.specs.declared.code.Base.{Base}
use Rattle.frames_code.specs.declared.code.Base.TheVariants as base
use Rattle.frames_code.specs.declared.code.Location.{Location}
use Rattle.frames_code.specs.declared.code.Location.TheVariants as location
use Rattle.frames_code.specs.declared.code.Instruction.{Instruction}
use Rattle.frames_code.specs.declared.code.Instruction.TheVariants as instruction
use Rattle.frames_opt.specs.declared.room.Room.{Room}
use Rattle.frames_opt.specs.declared.facts.Known.{Known}
use Rattle.frames_opt.specs.declared.facts.Known.TheVariants as known
use Rattle.frames_opt.specs.declared.statuses.Status.{Status}
use Rattle.frames_opt.specs.declared.statuses.Status.TheVariants as status
use Rattle.frames_opt.specs.declared.rows.Held.{Held}
use Rattle.frames_opt.specs.declared.rows.Held.TheVariants as held
use Rattle.frames_opt.specs.declared.rows.Row.{Row}
use Rattle.frames_opt.specs.inside.Facts.{known_of, is_target, is_near, is_cheap, further, indexed_from, behind}
use Rattle.frames_opt.specs.inside.Rules.{simpler}
use Rattle.frames_opt.specs.inside.Passes.{jump_of, is_marked, fresh}
use Rattle.frames_opt.specs.inside.Liveness.{reads, temporary_of, written, is_written}

-- ---- what each temporary of the new code holds before each instruction, beside that of the old one: a row for each instruction has a mask of the dead
-- ---- ones, and up to two that hold an index; before the first instruction all hold the same, and those from the ninth on always

abbrev pub blank : Row
blank = record { dead = 0; first = held.Nothing; second = held.Nothing }

abbrev pub is_dead : ℕ → ℕ → Bool
is_dead m k = nat_lt k 8 && (m / 2 ^ k % 2 == 1)

abbrev pub or_held : Held → ℕ → Status → Status
or_held held.Nothing k z = z
or_held (held.Index j b size) k z = if j == k then status.Index b size else z

abbrev pub status_of : Row → ℕ → Status
status_of r k = if is_dead r.dead k then status.Dead else or_held r.first k (or_held r.second k status.Same)

abbrev pub is_inside : List Row → ℕ → Bool
is_inside states i = nat_lt 0 i && nat_lt i (length states)

abbrev pub status_at : List Row → (i k : ℕ) → Status
status_at states i k = if is_inside states i && nat_lt k 8 then status_of (get_or states i blank) k else status.Same

-- the dead ones
abbrev pub mask_at : List Row → ℕ → ℕ
mask_at states i = if is_inside states i then (get_or states i blank).dead else 0

abbrev pub is_same : Status → Bool
is_same status.Same = true
is_same status.Dead = false
is_same (status.Index b size) = false

abbrev pub is_same_base : Base → Base → Bool
is_same_base (base.Statics o) (base.Statics u) = o == u
is_same_base (base.Statics o) (base.Frame u) = false
is_same_base (base.Frame o) (base.Statics u) = false
is_same_base (base.Frame o) (base.Frame u) = o == u

-- a temporary of the first status may be of the second
abbrev pub accepts : Status → Status → Bool
accepts status.Dead z = true
accepts status.Same status.Same = true
accepts status.Same status.Dead = false
accepts status.Same (status.Index c width) = false
accepts (status.Index b size) status.Same = false
accepts (status.Index b size) status.Dead = false
accepts (status.Index b size) (status.Index c width) = is_same_base b c && size == width

-- ---- the elements whose index may stay: a temporary takes the reference by itself

abbrev pub offer : Room → List Known → Instruction → Known
offer room facts instruction.Nothing = known.Unknown
offer room facts (instruction.Move d x) = known.Unknown
offer room facts (instruction.Compute o d x y) = known.Unknown
offer room facts (instruction.Convert c d x) = known.Unknown
offer room facts (instruction.Load w d l) = known.Unknown
offer room facts (instruction.Store w x l) = known.Unknown
offer room facts (instruction.Address d l) = known.Unknown
offer room facts (instruction.Element d x y size) = if is_target d y then indexed_from room (known_of facts x) y size else known.Unknown
offer room facts (instruction.Jump to) = known.Unknown
offer room facts (instruction.Branch t x y to) = known.Unknown
offer room facts (instruction.Call f) = known.Unknown
offer room facts instruction.PutByte = known.Unknown
offer room facts instruction.GetByte = known.Unknown
offer room facts instruction.Exit = known.Unknown
offer room facts instruction.Return = known.Unknown

-- of the code that the first pass makes, from instruction i on
abbrev pub offers : Room → List Bool → ℕ → List Known → List Instruction → List Known
offers room marks i facts [] = []
offers room marks i facts (x ∷ xs) =
    offer room (fresh (is_marked marks i) facts) (simpler room.area (fresh (is_marked marks i) facts) x)
    ∷ offers room marks (i + 1) (behind room (fresh (is_marked marks i) facts) (simpler room.area (fresh (is_marked marks i) facts) x)) xs

abbrev pub index_of : Known → Status
index_of known.Unknown = status.Same
index_of (known.Word w) = status.Same
index_of (known.Statics o) = status.Same
index_of (known.Frame o) = status.Same
index_of (known.Indexed b y size) = status.Index b size

-- ---- the pass

abbrev pub place_by : Status → ℕ → Location
place_by status.Same k = location.At (operand.Temporary k)
place_by status.Dead k = location.At (operand.Temporary k)
place_by (status.Index b size) k = location.Indexed b (operand.Temporary k) size

abbrev pub place_at : List Row → ℕ → Operand → Location
place_at states i (operand.Temporary k) = place_by (status_at states i k) k
place_at states i (operand.Cell c) = location.At (operand.Cell c)
place_at states i (operand.Constant v) = location.At (operand.Constant v)
place_at states i (operand.Argument k) = location.At (operand.Argument k)

abbrev pub place_of : List Row → ℕ → Location → Location
place_of states i (location.Statics o) = location.Statics o
place_of states i (location.Frame o) = location.Frame o
place_of states i (location.At x) = place_at states i x
place_of states i (location.Indexed b y size) = location.Indexed b y size

-- an access through an index that stayed
abbrev pub placed : List Row → ℕ → Instruction → Instruction
placed states i instruction.Nothing = instruction.Nothing
placed states i (instruction.Move d x) = instruction.Move d x
placed states i (instruction.Compute o d x y) = instruction.Compute o d x y
placed states i (instruction.Convert c d x) = instruction.Convert c d x
placed states i (instruction.Load w d l) = instruction.Load w d (place_of states i l)
placed states i (instruction.Store w x l) = instruction.Store w x (place_of states i l)
placed states i (instruction.Address d l) = instruction.Address d l
placed states i (instruction.Element d x y size) = instruction.Element d x y size
placed states i (instruction.Jump to) = instruction.Jump to
placed states i (instruction.Branch t x y to) = instruction.Branch t x y to
placed states i (instruction.Call f) = instruction.Call f
placed states i instruction.PutByte = instruction.PutByte
placed states i instruction.GetByte = instruction.GetByte
placed states i instruction.Exit = instruction.Exit
placed states i instruction.Return = instruction.Return

-- the temporary that is written does not count as the same behind
abbrev pub is_lost : List Row → ℕ → Option ℕ → Bool
is_lost states i None = false
is_lost states i (Some k) = not (is_same (status_at states (i + 1) k))

abbrev pub is_left_out : List Row → ℕ → Instruction → Bool
is_left_out states i x = is_lost states i (written x)

abbrev pub swept_one : List Row → ℕ → Instruction → Instruction
swept_one states i x = if is_left_out states i x then instruction.Nothing else placed states i x

-- code from instruction i on
abbrev pub swept : List Row → ℕ → List Instruction → List Instruction
swept states i [] = []
swept states i (x ∷ xs) = swept_one states i x ∷ swept states (i + 1) xs

-- ---- the statuses are right

-- temporary k may hold an index for an access
abbrev pub fits : Room → ℕ → Status → Bool
fits room k status.Same = true
fits room k status.Dead = true
fits room k (status.Index b size) = is_near room b && is_cheap room (operand.Temporary k) size

-- wherever instruction i leads, temporary k may be z
abbrev pub leads : List Row → ℕ → Instruction → ℕ → Status → Bool
leads states i instruction.Nothing k z = accepts (status_at states (i + 1) k) z
leads states i (instruction.Move d x) k z = accepts (status_at states (i + 1) k) z
leads states i (instruction.Compute o d x y) k z = accepts (status_at states (i + 1) k) z
leads states i (instruction.Convert c d x) k z = accepts (status_at states (i + 1) k) z
leads states i (instruction.Load w d l) k z = accepts (status_at states (i + 1) k) z
leads states i (instruction.Store w x l) k z = accepts (status_at states (i + 1) k) z
leads states i (instruction.Address d l) k z = accepts (status_at states (i + 1) k) z
leads states i (instruction.Element d x y size) k z = accepts (status_at states (i + 1) k) z
leads states i (instruction.Jump to) k z = accepts (status_at states to k) z
leads states i (instruction.Branch t x y to) k z = accepts (status_at states (i + 1) k) z && accepts (status_at states to k) z
leads states i (instruction.Call f) k z = accepts (status_at states (i + 1) k) z
leads states i instruction.PutByte k z = accepts (status_at states (i + 1) k) z
leads states i instruction.GetByte k z = accepts (status_at states (i + 1) k) z
leads states i instruction.Exit k z = true
leads states i instruction.Return k z = true

-- what a temporary that was z is behind an instruction that is not left out
abbrev pub behind_it : ℕ → Instruction → Status → Status
behind_it k x z = if is_written k x then status.Same else z

-- such an instruction reads only what is the same
abbrev pub stays_right : (gives : Bool) → List Row → ℕ → Instruction → ℕ → Status → Bool
stays_right gives states i x k z = (is_same z || not (reads gives z k x)) && leads states i x k (behind_it k x z)

-- the element that a reference leads on to from one whose index temporary k holds
abbrev pub on_from : Room → ℕ → Status → Operand → ℕ → Known
on_from room k status.Same y size = known.Unknown
on_from room k status.Dead y size = known.Unknown
on_from room k (status.Index b width) y size = further room b (operand.Temporary k) width y size

abbrev pub leads_on : Room → ℕ → Status → Instruction → Known
leads_on room k z instruction.Nothing = known.Unknown
leads_on room k z (instruction.Move d x) = known.Unknown
leads_on room k z (instruction.Compute o d x y) = known.Unknown
leads_on room k z (instruction.Convert c d x) = known.Unknown
leads_on room k z (instruction.Load w d l) = known.Unknown
leads_on room k z (instruction.Store w x l) = known.Unknown
leads_on room k z (instruction.Address d l) = known.Unknown
leads_on room k z (instruction.Element d x y size) = if is_target d x then on_from room k z y size else known.Unknown
leads_on room k z (instruction.Jump to) = known.Unknown
leads_on room k z (instruction.Branch t x y to) = known.Unknown
leads_on room k z (instruction.Call f) = known.Unknown
leads_on room k z instruction.PutByte = known.Unknown
leads_on room k z instruction.GetByte = known.Unknown
leads_on room k z instruction.Exit = known.Unknown
leads_on room k z instruction.Return = known.Unknown

-- the temporary that an instruction writes that is left out: dead behind it, or it is the index of the element that is offered, or it holds one and its
-- reference leads on
abbrev pub is_given_up : Status → Status → Known → Known → Bool
is_given_up status.Dead z o on = true
is_given_up status.Same z o on = false
is_given_up (status.Index b size) z o on = (is_same z && accepts (status.Index b size) (index_of o)) || accepts (status.Index b size) (index_of on)

abbrev pub drop_right : Room → List Row → ℕ → Known → Instruction → ℕ → Bool
drop_right room states i o x k =
    if is_written k x then is_given_up (status_at states (i + 1) k) (status_at states i k) o (leads_on room k (status_at states i k) x) else accepts (status_at states (i + 1) k) (status_at states i k)

abbrev pub is_right : Room → List Row → ℕ → Known → Instruction → ℕ → Bool
is_right room states i o x k =
    fits room k (status_at states i k) && (if is_left_out states i x then drop_right room states i o x k else stays_right room.gives states i x k (status_at states i k))

-- ---- all at once: by masks where a temporary is dead, one by one where it holds an index at the instruction or where that leads

abbrev pub bit_of : Option ℕ → ℕ
bit_of None = 0
bit_of (Some j) = if nat_lt j 8 then 2 ^ j else 0

-- each of the first mask but the one that is written is of the second
abbrev pub is_within : ℕ → ℕ → Option ℕ → Bool
is_within m n w = bit_and m (bit_or n (bit_of w)) == m

abbrev pub names_dead : ℕ → Operand → Bool
names_dead m (operand.Temporary j) = is_dead m j
names_dead m (operand.Cell c) = false
names_dead m (operand.Constant v) = false
names_dead m (operand.Argument j) = false

abbrev pub through_dead : ℕ → Location → Bool
through_dead m (location.Statics o) = false
through_dead m (location.Frame o) = false
through_dead m (location.At x) = names_dead m x
through_dead m (location.Indexed b y size) = names_dead m y

-- an instruction reads one of these, of which there are some
abbrev pub reads_dead : (gives : Bool) → ℕ → Instruction → Bool
reads_dead gives m instruction.Nothing = false
reads_dead gives m (instruction.Move d x) = names_dead m x
reads_dead gives m (instruction.Compute o d x y) = names_dead m x || names_dead m y
reads_dead gives m (instruction.Convert c d x) = names_dead m x
reads_dead gives m (instruction.Load w d l) = through_dead m l
reads_dead gives m (instruction.Store w x l) = names_dead m x || through_dead m l
reads_dead gives m (instruction.Address d l) = through_dead m l
reads_dead gives m (instruction.Element d x y size) = names_dead m x || names_dead m y
reads_dead gives m (instruction.Jump to) = false
reads_dead gives m (instruction.Branch t x y to) = names_dead m x || names_dead m y
reads_dead gives m (instruction.Call f) = true
reads_dead gives m instruction.PutByte = true
reads_dead gives m instruction.GetByte = true
reads_dead gives m instruction.Exit = true
reads_dead gives m instruction.Return = gives && is_dead m 0

-- these are dead wherever instruction i leads, but for the one that it writes
abbrev pub dead_leads : List Row → ℕ → Instruction → ℕ → Bool
dead_leads states i instruction.Nothing m = is_within m (mask_at states (i + 1)) None
dead_leads states i (instruction.Move d x) m = is_within m (mask_at states (i + 1)) (temporary_of d)
dead_leads states i (instruction.Compute o d x y) m = is_within m (mask_at states (i + 1)) (temporary_of d)
dead_leads states i (instruction.Convert c d x) m = is_within m (mask_at states (i + 1)) (temporary_of d)
dead_leads states i (instruction.Load w d l) m = is_within m (mask_at states (i + 1)) (temporary_of d)
dead_leads states i (instruction.Store w x l) m = is_within m (mask_at states (i + 1)) None
dead_leads states i (instruction.Address d l) m = is_within m (mask_at states (i + 1)) (temporary_of d)
dead_leads states i (instruction.Element d x y size) m = is_within m (mask_at states (i + 1)) (temporary_of d)
dead_leads states i (instruction.Jump to) m = is_within m (mask_at states to) None
dead_leads states i (instruction.Branch t x y to) m = is_within m (mask_at states (i + 1)) None && is_within m (mask_at states to) None
dead_leads states i (instruction.Call f) m = is_within m (mask_at states (i + 1)) None
dead_leads states i instruction.PutByte m = is_within m (mask_at states (i + 1)) None
dead_leads states i instruction.GetByte m = is_within m (mask_at states (i + 1)) None
dead_leads states i instruction.Exit m = true
dead_leads states i instruction.Return m = true

abbrev pub masks_right : (gives : Bool) → List Row → ℕ → Instruction → ℕ → Bool
masks_right gives states i x m =
    if is_left_out states i x then is_within m (mask_at states (i + 1)) (written x) else not (reads_dead gives m x) && dead_leads states i x m

abbrev pub dead_right : (gives : Bool) → List Row → ℕ → Instruction → Bool
dead_right gives states i x = (mask_at states i == 0) || masks_right gives states i x (mask_at states i)

abbrev pub held_right : Room → List Row → ℕ → Known → Instruction → Held → Bool
held_right room states i o x held.Nothing = true
held_right room states i o x (held.Index j b size) = is_right room states i o x j

-- those that hold an index before instruction n are right at instruction i
abbrev pub row_right : Room → List Row → ℕ → Known → Instruction → ℕ → Bool
row_right room states i o x n =
    if is_inside states n then held_right room states i o x (get_or states n blank).first && held_right room states i o x (get_or states n blank).second else true

abbrev pub jump_right : Room → List Row → ℕ → Known → Instruction → Option ℕ → Bool
jump_right room states i o x None = true
jump_right room states i o x (Some to) = row_right room states i o x to

abbrev pub all_right : Room → List Row → ℕ → Known → Instruction → Bool
all_right room states i o x =
    dead_right room.gives states i x && (row_right room states i o x i && (row_right room states i o x (i + 1) && jump_right room states i o x (jump_of x)))

-- of code from instruction i on, by what is offered at each instruction
abbrev pub are_right : Room → List Row → List Known → ℕ → List Instruction → Bool
are_right room states list i [] = true
are_right room states list i (x ∷ xs) = all_right room states i (get_or list i known.Unknown) x && are_right room states list (i + 1) xs
