-- The number of machine instructions that a run of flat code takes, at least and at most.
use Rattle.std.specs.Prelude.{◌≡◌, ℕ, Bool, zero, suc, ◌+◌, ◌-◌, ◌*◌, ◌%◌, ◌^◌, ◌==◌, ◌≤◌, nat_lt, if◌then◌else◌, Option, Some, None}
use Rattle.rv32.specs.declared.instr.Instr.{Instr}
use Rattle.rv32.specs.declared.instr.RegisterOp.TheVariants as register_op
use Rattle.asm.specs.Layout.{longest}
use Rattle.frames_code.specs.declared.code.Location.{Location}
use Rattle.frames_code.specs.declared.code.Location.TheVariants as location
use Rattle.frames_code.specs.declared.code.Operation.{Operation}
use Rattle.frames_code.specs.declared.code.Operation.TheVariants as operation
use Rattle.frames_code.specs.declared.code.Conversion.{Conversion}
use Rattle.frames_code.specs.declared.code.Conversion.TheVariants as conversion
use Rattle.frames_code.specs.declared.code.Instruction.{Instruction}
use Rattle.frames_code.specs.declared.code.Instruction.TheVariants as instruction
use Rattle.frames_code.specs.Code.{Function, Program, cell_home, area_home, frame_bytes}
use Rattle.frames_code.specs.Sound.{IsSoundProgram}
use Rattle.frames_code.specs.Run.{State, function_at, step}
use Rattle.frames_code.specs.Costs.{entry_cost_of, next_of, cost_on, spent_in}
use Rattle.select.specs.declared.places.Source.{Source}
use Rattle.select.specs.declared.places.Source.TheVariants as source
use Rattle.select.specs.declared.places.Home.{Home}
use Rattle.select.specs.declared.places.Home.TheVariants as home
use Rattle.select.specs.Program.{calls_are_near}
use Rattle.select.specs.Selected.{is_near_gp, source_of, home_of, register_of, made_in, machine_of, constant_form, log2_of, byte_home, return_home, calls, entry, items_of, shortened}

-- ---- at least

-- all but Nothing are at least one
abbrev pub least : Instruction → ℕ
least instruction.Nothing = 0
least (instruction.Move d x) = 1
least (instruction.Compute o d x y) = 1
least (instruction.Convert c d x) = 1
least (instruction.Load w d l) = 1
least (instruction.Store w x l) = 1
least (instruction.Address d l) = 1
least (instruction.Element d x y size) = 1
least (instruction.Jump to) = 1
least (instruction.Branch t x y to) = 1
least (instruction.Call f) = 1
least instruction.PutByte = 1
least instruction.GetByte = 1
least instruction.Exit = 1
least instruction.Return = 1

-- instruction number k of a function: none where it only goes on to the next one that needs code
abbrev pub least_at : Function → ℕ → Instruction → ℕ
least_at f k x = least (shortened f.code k x)

abbrev pub least_if : Function → ℕ → Option Instruction → ℕ
least_if f k None = 0
least_if f k (Some x) = least_at f k x

-- the least cost of n steps
abbrev pub least_spent : Program → ℕ → State → ℕ
least_spent p zero s = 0
least_spent p (suc n) s = least_if (function_at p s.frame.function) s.frame.at (next_of p s) + cost_on (step p s) (least_spent p n)

-- ---- at most: by the function that the instruction is in

-- two more where an offset is past the reach of 12 bits
abbrev pub far_cost : ℕ → ℕ
far_cost o = if nat_lt o 0x800 then 0 else 2

-- a load or a store of a word of the frame
abbrev pub word_cost : ℕ → ℕ
word_cost o = 1 + far_cost o

-- a constant of more than 12 bits, with zeros below or not
abbrev pub constant_cost : ℕ → ℕ
constant_cost v = if v % 0x1000 == 0 then 1 else 2

-- the address of a place of the frame
abbrev pub address_cost : ℕ → ℕ
address_cost o = if nat_lt o 0x800 then 1 else constant_cost o + 1

-- a constant, of 12 bits with a sign or of more
abbrev pub set_cost : ℕ → ℕ
set_cost v = if nat_lt ((v + 0x800) % 2 ^ 32) 0x1000 then 1 else constant_cost v

abbrev pub fetch_cost : Source → ℕ
fetch_cost (source.Register r) = 0
fetch_cost (source.Frame o) = word_cost o
fetch_cost (source.Constant v) = set_cost v

abbrev pub keep_cost : Home → ℕ
keep_cost (home.Register r) = 0
keep_cost (home.Frame o) = word_cost o

abbrev pub into_cost : Source → ℕ
into_cost (source.Register r) = 1
into_cost (source.Frame o) = word_cost o
into_cost (source.Constant v) = set_cost v

abbrev pub move_cost : Home → Source → ℕ
move_cost (home.Register r) x = into_cost x
move_cost (home.Frame o) x = fetch_cost x + word_cost o

-- the second operand of an operation: nothing where the instruction has it in itself
abbrev pub form_cost : Option Instr → ℕ → ℕ
form_cost (Some i) other = 0
form_cost None other = other

abbrev pub second_cost : Operation → ℕ → ℕ → Source → ℕ
second_cost o rd a (source.Register r) = 0
second_cost o rd a (source.Frame p) = word_cost p
second_cost o rd a (source.Constant v) = form_cost (constant_form (machine_of o) rd a v) (set_cost v)

abbrev pub ending_cost : Operation → ℕ
ending_cost (operation.Machine o) = 0
ending_cost operation.Equal = 1
ending_cost operation.NotEqual = 1

abbrev pub compute_cost : Operation → Home → Source → Source → ℕ
compute_cost o d x y = fetch_cost x + (second_cost o (made_in d) (register_of 5 x) y + (1 + (ending_cost o + keep_cost d)))

abbrev pub narrow_cost : Conversion → ℕ
narrow_cost conversion.ToByte = 1
narrow_cost conversion.ToSignedByte = 2
narrow_cost conversion.ToHalf = 2
narrow_cost conversion.ToSignedHalf = 2
narrow_cost conversion.ToTruth = 1

-- the address of a static, from gp or alone
abbrev pub static_cost : ℕ → ℕ
static_cost o = if is_near_gp o then 1 else 2

-- a shift, or a product with a constant
abbrev pub product_cost : Option ℕ → ℕ → ℕ
product_cost (Some k) size = 1
product_cost None size = set_cost size + 1

-- nothing for a size of 1
abbrev pub scale_cost : ℕ → ℕ
scale_cost size = if size == 1 then 0 else product_cost (log2_of size) size

-- an access to a static counts from gp, or from its address; by an index, from the sum of a base and the index in bytes
abbrev pub reach_cost : Function → Location → ℕ
reach_cost f (location.Statics o) = if is_near_gp o then 0 else 2
reach_cost f (location.Frame o) = far_cost (area_home f + o)
reach_cost f (location.At x) = fetch_cost (source_of f x)
reach_cost f (location.Indexed b y size) = fetch_cost (source_of f y) + (scale_cost size + 1)

abbrev pub reference_cost : Function → Home → Location → ℕ
reference_cost f d (location.Statics o) = static_cost o + keep_cost d
reference_cost f d (location.Frame o) = address_cost (area_home f + o) + keep_cost d
reference_cost f d (location.At x) = move_cost d (source_of f x)
reference_cost f d (location.Indexed b y size) = reach_cost f (location.Indexed b y size) + (1 + keep_cost d)

-- a reference advanced by a number of elements: a number that is a constant takes a sum with its bytes, and none a move
abbrev pub counted_cost : Home → Source → Source → ℕ → ℕ
counted_cost d x y size = fetch_cost x + (fetch_cost y + (scale_cost size + (1 + keep_cost d)))

abbrev pub element_cost : Home → Source → Source → ℕ → ℕ
element_cost d x (source.Register q) size = if q == 0 then move_cost d x else counted_cost d x (source.Register q) size
element_cost d x (source.Frame o) size = counted_cost d x (source.Frame o) size
element_cost d x (source.Constant n) size = compute_cost (operation.Machine register_op.Add) d x (source.Constant (n * size % 2 ^ 32))

-- a change of sp, by 12 bits with a sign or by more
abbrev pub frame_cost : ℕ → ℕ
frame_cost by = if nat_lt ((by + 0x800) % 2 ^ 32) 0x1000 then 1 else constant_cost by + 1

-- the homes of the first n resident words
abbrev pub saved_cost : Function → ℕ → ℕ
saved_cost f zero = 0
saved_cost f (suc n) = saved_cost f n + word_cost (cell_home f n)

-- the address to return to, where the function calls
abbrev pub return_cost : Function → ℕ
return_cost f = if calls f.code then word_cost (return_home f) else 0

-- a function's entry
abbrev pub opening_cost : Function → ℕ
opening_cost f = frame_cost (2 ^ 32 - frame_bytes f) + (return_cost f + saved_cost f f.resident)

abbrev pub row : Function → Instruction → ℕ
row f instruction.Nothing = 0
row f (instruction.Move d x) = move_cost (home_of f d) (source_of f x)
row f (instruction.Compute o d x y) = compute_cost o (home_of f d) (source_of f x) (source_of f y)
row f (instruction.Convert c d x) = fetch_cost (source_of f x) + (narrow_cost c + keep_cost (home_of f d))
row f (instruction.Load w d l) = reach_cost f l + (1 + keep_cost (home_of f d))
row f (instruction.Store w x l) = fetch_cost (source_of f x) + (reach_cost f l + 1)
row f (instruction.Address d l) = reference_cost f (home_of f d) l
row f (instruction.Element d x y size) = element_cost (home_of f d) (source_of f x) (source_of f y) size
row f (instruction.Jump to) = 1
row f (instruction.Branch t x y to) = fetch_cost (source_of f x) + (fetch_cost (source_of f y) + 2)
row f (instruction.Call g) = 2
row f instruction.PutByte = address_cost (byte_home f) + 7
row f instruction.GetByte = address_cost (byte_home f) + 9
row f instruction.Exit = 2
row f instruction.Return = saved_cost f f.resident + (return_cost f + (frame_cost (frame_bytes f) + 1))

-- the number of instructions of the items: three more follow the output of a byte, which no run executes where each call returns 1
abbrev pub item_count : Function → Instruction → ℕ
item_count f instruction.PutByte = row f instruction.PutByte + 3
item_count f x = row f x

-- with all branches long
abbrev pub RowsAreLengths : Type 0
RowsAreLengths = (f : Function) (first : ℕ) → (longest (entry f) ≡ 4 * opening_cost f) × ((x : Instruction) → longest (items_of f first x) ≡ 4 * item_count f x)

-- JAL where all of the program is near, else AUIPC and JALR
abbrev pub call_cost : (near : Bool) → ℕ
call_cost near = if near then 1 else 2

-- with the entry of a function that is called
abbrev pub step_cost : Program → Function → Instruction → ℕ
step_cost p f (instruction.Call g) = call_cost (calls_are_near p) + opening_cost (function_at p g)
step_cost p f x = row f x

-- instruction number k of function f: none where it only goes on to the next one that needs code
abbrev pub most_at : Program → Function → ℕ → Instruction → ℕ
most_at p f k x = step_cost p f (shortened f.code k x)

abbrev pub most_if : Program → Function → ℕ → Option Instruction → ℕ
most_if p f k None = 0
most_if p f k (Some x) = most_at p f k x

-- the greatest cost of the next step, and of n steps
abbrev pub most_next : Program → State → ℕ
most_next p s = most_if p (function_at p s.frame.function) s.frame.at (next_of p s)

abbrev pub most_spent : Program → ℕ → State → ℕ
most_spent p zero s = 0
most_spent p (suc n) s = most_next p s + cost_on (step p s) (most_spent p n)

-- the items before main's call, the call, and main's entry
abbrev pub most_start : Program → ℕ
most_start p = 6 + opening_cost (function_at p p.main)

abbrev pub start_cost : Program → ℕ
start_cost p = 6 + entry_cost_of (function_at p p.main)

-- never more than by the table of `frames_code`, which counts all as far and twelve words as resident; but where a frame is within the reach of 12 bits, no word
-- is far at its function's entry
abbrev pub SpentIsMore : Type 0
SpentIsMore = (p : Program) → IsSoundProgram p → (most_start p ≤ start_cost p) × ((n : ℕ) (s : State) → most_spent p n s ≤ spent_in p n s)

-- ---- the same in short: what is far, and all else

-- two more where sp changes by more than 12 bits with a sign
abbrev pub far_frame : ℕ → ℕ
far_frame by = if nat_lt ((by + 0x800) % 2 ^ 32) 0x1000 then 0 else 2

abbrev pub far_source : Source → ℕ
far_source (source.Register r) = 0
far_source (source.Frame o) = far_cost o
far_source (source.Constant v) = 0

abbrev pub far_home : Home → ℕ
far_home (home.Register r) = 0
far_home (home.Frame o) = far_cost o

abbrev pub far_location : Function → Location → ℕ
far_location f (location.Statics o) = 0
far_location f (location.Frame o) = far_cost (area_home f + o)
far_location f (location.At x) = far_source (source_of f x)
far_location f (location.Indexed b y size) = far_source (source_of f y)

abbrev pub far_saved : Function → ℕ → ℕ
far_saved f zero = 0
far_saved f (suc n) = far_saved f n + far_cost (cell_home f n)

-- two for each operand, target, location, and home at a function's entry or return that is past the reach of 12 bits
abbrev pub far_in : Program → Function → Instruction → ℕ
far_in p f instruction.Nothing = 0
far_in p f (instruction.Move d x) = far_source (source_of f x) + far_home (home_of f d)
far_in p f (instruction.Compute o d x y) = far_source (source_of f x) + far_source (source_of f y) + far_home (home_of f d)
far_in p f (instruction.Convert c d x) = far_source (source_of f x) + far_home (home_of f d)
far_in p f (instruction.Load w d l) = far_location f l + far_home (home_of f d)
far_in p f (instruction.Store w x l) = far_source (source_of f x) + far_location f l
far_in p f (instruction.Address d l) = far_location f l + far_home (home_of f d)
far_in p f (instruction.Element d x y size) = far_source (source_of f x) + far_source (source_of f y) + far_home (home_of f d)
far_in p f (instruction.Jump to) = 0
far_in p f (instruction.Branch t x y to) = far_source (source_of f x) + far_source (source_of f y)
far_in p f (instruction.Call g) = far_frame (2 ^ 32 - frame_bytes (function_at p g)) + far_cost (return_home (function_at p g)) + far_saved (function_at p g) (function_at p g).resident
far_in p f instruction.PutByte = far_cost (byte_home f)
far_in p f instruction.GetByte = far_cost (byte_home f)
far_in p f instruction.Exit = 0
far_in p f instruction.Return = far_saved f f.resident + far_cost (return_home f) + far_frame (frame_bytes f)

-- where nothing is far
abbrev pub near_cost : Program → Function → Instruction → ℕ
near_cost p f (instruction.Call g) = 4 + (function_at p g).resident
near_cost p f instruction.Return = 3 + f.resident
near_cost p f x = 12

-- a call and its entry 4 and the residents, a return 3 and the residents, all else at most 12; and two more an operand that is far
abbrev pub RowsAreFew : Type 0
RowsAreFew = (p : Program) (f : Function) (x : Instruction) → step_cost p f x ≤ near_cost p f x + far_in p f x
