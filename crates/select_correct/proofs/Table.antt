-- The sums of the table of costs: never more than the table of `frames_code`, and few where nothing is far.
use Rattle.std.proofs.Common.{◌≡◌, ℕ, zero, suc, ◌+◌, ◌*◌, ◌-◌, ◌%◌, ◌^◌, ◌<◌, ◌≤◌, length, Option, Some, None, Bool, true, false, refl, ap, arith}
use Rattle.std.specs.Prelude.{if◌then◌else◌, ◌==◌, nat_lt, slice_get}
use Rattle.std.proofs.lemmas.Bool.{lt-ltb, ltb-true}
use Rattle.rv32.specs.declared.instr.Instr.{Instr}
use Rattle.rv32.specs.declared.instr.RegisterOp.TheVariants as register_op
use Rattle.frames_code.specs.declared.code.Operand.{Operand}
use Rattle.frames_code.specs.declared.code.Operand.TheVariants as operand
use Rattle.frames_code.specs.declared.code.Target.{Target}
use Rattle.frames_code.specs.declared.code.Target.TheVariants as target
use Rattle.frames_code.specs.declared.code.Location.{Location}
use Rattle.frames_code.specs.declared.code.Location.TheVariants as location
use Rattle.frames_code.specs.declared.code.Operation.{Operation}
use Rattle.frames_code.specs.declared.code.Operation.TheVariants as operation
use Rattle.frames_code.specs.declared.code.Conversion.{Conversion}
use Rattle.frames_code.specs.declared.code.Conversion.TheVariants as conversion
use Rattle.frames_code.specs.declared.code.Instruction.{Instruction}
use Rattle.frames_code.specs.declared.code.Instruction.TheVariants as instruction
use Rattle.frames_code.specs.Code.{Function, Program, cell_home, area_home, frame_bytes}
use Rattle.frames_code.specs.Sound.{TargetFits, IndexFits, LocationFits, InstructionFits, FunctionFits, IsSoundProgram, is_power_of_two}
use Rattle.frames_code.specs.Run.{State, Progress, running, ended, stuck, function_at, step}
use Rattle.frames_code.specs.Costs.{entry_cost_of, cost_in, cost_in_if, next_of, cost_on, spent_in}
use Rattle.select.specs.declared.places.Source.{Source}
use Rattle.select.specs.declared.places.Source.TheVariants as source
use Rattle.select.specs.declared.places.Home.{Home}
use Rattle.select.specs.declared.places.Home.TheVariants as home
use Rattle.select.specs.Program.{calls_are_near}
use Rattle.select.specs.Selected.{is_near_gp, source_of, home_of, register_of, made_in, machine_of, constant_form, log2_of, byte_home, return_home, calls, is_same, skips_nothing}
use Rattle.select_correct.specs.Costs.{call_cost, far_cost, word_cost, constant_cost, address_cost, set_cost, fetch_cost, keep_cost, into_cost, move_cost, form_cost, second_cost, ending_cost, compute_cost, narrow_cost, reach_cost, reference_cost, product_cost, scale_cost, counted_cost, element_cost, frame_cost, far_frame, saved_cost, opening_cost, step_cost, most_at, most_if, most_next, most_spent, SpentIsMore, far_source, far_home, far_location, far_saved, RowsAreFew}
use Rattle.select.proofs.Powers.{power_is}
use Rattle.select_correct.proofs.Fits.{function_fits, frame_room}

choice_most : (t : Bool) (n : ℕ) → (if t then 0 else n) ≤ n
choice_most true n = omega arith
choice_most false n = omega arith

of_either : (t : Bool) (a b n : ℕ) → a ≤ n → b ≤ n → (if t then a else b) ≤ n
of_either true a b n p q = p
of_either false a b n p q = q

one_or_more : (t : Bool) (n : ℕ) → n ≤ 2 → (if t then 1 else n) ≤ 2
one_or_more true n le = omega arith
one_or_more false n le = le

constant_most : (v : ℕ) → constant_cost v ≤ 2
constant_most v = one_or_more (v % 0x1000 == 0) 2 (omega arith)

set_most : (v : ℕ) → set_cost v ≤ 2
set_most v = one_or_more (nat_lt ((v + 0x800) % 2 ^ 32) 0x1000) (constant_cost v) (constant_most v)

two_more : (t : Bool) (n : ℕ) → n ≤ 2 → (if t then 1 else n + 1) ≤ 1 + (if t then 0 else 2)
two_more true n le = omega arith
two_more false n le = omega (arith, le)

address_near : (o : ℕ) → address_cost o ≤ 1 + far_cost o
address_near o = two_more (nat_lt o 0x800) (constant_cost o) (constant_most o)

frame_near : (by : ℕ) → frame_cost by ≤ 1 + far_frame by
frame_near by = two_more (nat_lt ((by + 0x800) % 2 ^ 32) 0x1000) (constant_cost by) (constant_most by)

return_near : (t : Bool) (o : ℕ) → (if t then word_cost o else 0) ≤ 1 + far_cost o
return_near true o = omega arith
return_near false o = omega arith

product_most : (o : Option ℕ) (size : ℕ) → product_cost o size ≤ 3
product_most (Some k) size = omega arith
product_most None size = omega (arith, set_most size)

scaled_most : (t : Bool) (n : ℕ) → n ≤ 3 → (if t then 0 else n) ≤ 3
scaled_most true n le = omega arith
scaled_most false n le = le

scale_most : (size : ℕ) → scale_cost size ≤ 3
scale_most size = scaled_most (size == 1) (product_cost (log2_of size) size) (product_most (log2_of size) size)

form_most : (t : Option Instr) (n : ℕ) → form_cost t n ≤ n
form_most (Some i) n = omega arith
form_most None n = omega arith

ending_most : (o : Operation) → ending_cost o ≤ 1
ending_most (operation.Machine o) = omega arith
ending_most operation.Equal = omega arith
ending_most operation.NotEqual = omega arith

narrow_most : (c : Conversion) → narrow_cost c ≤ 2
narrow_most conversion.ToByte = omega arith
narrow_most conversion.ToSignedByte = omega arith
narrow_most conversion.ToHalf = omega arith
narrow_most conversion.ToSignedHalf = omega arith
narrow_most conversion.ToTruth = omega arith

-- ---- where nothing is far

fetch_near : (x : Source) → fetch_cost x ≤ 2 + far_source x
fetch_near (source.Register r) = omega arith
fetch_near (source.Frame o) = omega arith
fetch_near (source.Constant v) = omega (arith, set_most v)

into_near : (x : Source) → into_cost x ≤ 2 + far_source x
into_near (source.Register r) = omega arith
into_near (source.Frame o) = omega arith
into_near (source.Constant v) = omega (arith, set_most v)

keep_near : (d : Home) → keep_cost d ≤ 1 + far_home d
keep_near (home.Register r) = omega arith
keep_near (home.Frame o) = omega arith

second_near : (o : Operation) (rd a : ℕ) (y : Source) → second_cost o rd a y ≤ 2 + far_source y
second_near o rd a (source.Register r) = omega arith
second_near o rd a (source.Frame p) = omega arith
second_near o rd a (source.Constant v) = omega (arith, form_most (constant_form (machine_of o) rd a v) (set_cost v), set_most v)

compute_near : (o : Operation) (d : Home) (x y : Source) → compute_cost o d x y ≤ 7 + (far_source x + far_source y + far_home d)
compute_near o d x y = omega (arith, fetch_near x, second_near o (made_in d) (register_of 5 x) y, ending_most o, keep_near d)

move_near : (d : Home) (x : Source) → move_cost d x ≤ 3 + (far_source x + far_home d)
move_near (home.Register r) x = omega (arith, into_near x)
move_near (home.Frame o) x = omega (arith, fetch_near x)

counted_near : (d : Home) (x y : Source) (size : ℕ) → counted_cost d x y size ≤ 12 + (far_source x + far_source y + far_home d)
counted_near d x y size = omega (arith, fetch_near x, fetch_near y, scale_most size, keep_near d)

element_near : (d : Home) (x y : Source) (size : ℕ) → element_cost d x y size ≤ 12 + (far_source x + far_source y + far_home d)
element_near d x (source.Register q) size =
    of_either (q == 0) (move_cost d x) (counted_cost d x (source.Register q) size) _ (omega (arith, move_near d x)) (counted_near d x (source.Register q) size)
element_near d x (source.Frame o) size = counted_near d x (source.Frame o) size
element_near d x (source.Constant v) size = omega (arith, compute_near (operation.Machine register_op.Add) d x (source.Constant (v * size % 2 ^ 32)))

reach_near : (f : Function) (l : Location) → reach_cost f l ≤ 6 + far_location f l
reach_near f (location.Statics o) = omega (arith, choice_most (is_near_gp o) 2)
reach_near f (location.Frame o) = omega arith
reach_near f (location.At x) = omega (arith, fetch_near (source_of f x))
reach_near f (location.Indexed b y size) = omega (arith, fetch_near (source_of f y), scale_most size)

reference_near : (f : Function) (d : Home) (l : Location) → reference_cost f d l ≤ 8 + (far_location f l + far_home d)
reference_near f d (location.Statics o) = omega (arith, one_or_more (is_near_gp o) 2 (omega arith), keep_near d)
reference_near f d (location.Frame o) = omega (arith, keep_near d, address_near (area_home f + o))
reference_near f d (location.At x) = omega (arith, move_near d (source_of f x))
reference_near f d (location.Indexed b y size) = omega (arith, reach_near f (location.Indexed b y size), keep_near d)

saved_near : (f : Function) (n : ℕ) → saved_cost f n ≡ n + far_saved f n
saved_near f zero = omega arith
saved_near f (suc n) = omega (arith, saved_near f n)

few_at_call : (near : Bool) → call_cost near ≤ 2
few_at_call true = omega arith
few_at_call false = omega arith

pub rows_are_few : RowsAreFew
rows_are_few p f instruction.Nothing = omega arith
rows_are_few p f (instruction.Move d x) = omega (arith, move_near (home_of f d) (source_of f x))
rows_are_few p f (instruction.Compute o d x y) = omega (arith, compute_near o (home_of f d) (source_of f x) (source_of f y))
rows_are_few p f (instruction.Convert c d x) = omega (arith, narrow_most c, fetch_near (source_of f x), keep_near (home_of f d))
rows_are_few p f (instruction.Load w d l) = omega (arith, reach_near f l, keep_near (home_of f d))
rows_are_few p f (instruction.Store w x l) = omega (arith, fetch_near (source_of f x), reach_near f l)
rows_are_few p f (instruction.Address d l) = omega (arith, reference_near f (home_of f d) l)
rows_are_few p f (instruction.Element d x y size) = element_near (home_of f d) (source_of f x) (source_of f y) size
rows_are_few p f (instruction.Jump to) = omega arith
rows_are_few p f (instruction.Branch t x y to) = omega (arith, fetch_near (source_of f x), fetch_near (source_of f y))
rows_are_few p f (instruction.Call g) = omega (arith, few_at_call (calls_are_near p), return_near (calls (function_at p g).code) (return_home (function_at p g)), saved_near (function_at p g) (function_at p g).resident, frame_near (2 ^ 32 - frame_bytes (function_at p g)))
rows_are_few p f instruction.PutByte = omega (arith, address_near (byte_home f))
rows_are_few p f instruction.GetByte = omega (arith, address_near (byte_home f))
rows_are_few p f instruction.Exit = omega arith
rows_are_few p f instruction.Return = omega (arith, return_near (calls f.code) (return_home f), saved_near f f.resident, frame_near (frame_bytes f))

-- ---- where all is far

far_most : (o : ℕ) → far_cost o ≤ 2
far_most o = choice_most (nat_lt o 0x800) 2

address_most : (o : ℕ) → address_cost o ≤ 3
address_most o = omega (arith, address_near o, far_most o)

frame_most : (by : ℕ) → frame_cost by ≤ 3
frame_most by = omega (arith, frame_near by, choice_most (nat_lt ((by + 0x800) % 2 ^ 32) 0x1000) 2)

fetch_most : (x : Source) → fetch_cost x ≤ 3
fetch_most (source.Register r) = omega arith
fetch_most (source.Frame o) = omega (arith, far_most o)
fetch_most (source.Constant v) = omega (arith, set_most v)

into_most : (x : Source) → into_cost x ≤ 3
into_most (source.Register r) = omega arith
into_most (source.Frame o) = omega (arith, far_most o)
into_most (source.Constant v) = omega (arith, set_most v)

keep_most : (d : Home) → keep_cost d ≤ 3
keep_most (home.Register r) = omega arith
keep_most (home.Frame o) = omega (arith, far_most o)

second_most : (o : Operation) (rd a : ℕ) (y : Source) → second_cost o rd a y ≤ 3
second_most o rd a (source.Register r) = omega arith
second_most o rd a (source.Frame p) = omega (arith, far_most p)
second_most o rd a (source.Constant v) = omega (arith, form_most (constant_form (machine_of o) rd a v) (set_cost v), set_most v)

compute_most : (o : Operation) (d : Home) (x y : Source) → compute_cost o d x y ≤ 11
compute_most o d x y = omega (arith, fetch_most x, second_most o (made_in d) (register_of 5 x) y, ending_most o, keep_most d)

move_most : (d : Home) (x : Source) → move_cost d x ≤ 6
move_most (home.Register r) x = omega (arith, into_most x)
move_most (home.Frame o) x = omega (arith, fetch_most x, far_most o)

counted_most : (d : Home) (x y : Source) (size : ℕ) → counted_cost d x y size ≤ 13
counted_most d x y size = omega (arith, fetch_most x, fetch_most y, scale_most size, keep_most d)

element_most : (d : Home) (x y : Source) (size : ℕ) → element_cost d x y size ≤ 13
element_most d x (source.Register q) size =
    of_either (q == 0) (move_cost d x) (counted_cost d x (source.Register q) size) 13 (omega (arith, move_most d x)) (counted_most d x (source.Register q) size)
element_most d x (source.Frame o) size = counted_most d x (source.Frame o) size
element_most d x (source.Constant v) size = omega (arith, compute_most (operation.Machine register_op.Add) d x (source.Constant (v * size % 2 ^ 32)))

saved_most : (f : Function) (n : ℕ) → saved_cost f n ≤ 3 * n
saved_most f zero = omega arith
saved_most f (suc n) = omega (arith, saved_most f n, far_most (cell_home f n))

opening_most : (f : Function) → f.resident ≤ 12 → opening_cost f ≤ 42
opening_most f few = omega (arith, few, return_near (calls f.code) (return_home f), frame_most (2 ^ 32 - frame_bytes f), far_most (return_home f), saved_most f f.resident)

-- ---- where the whole frame is within the reach of 12 bits

word_near : (o : ℕ) → o < 0x800 → far_cost o ≡ 0
word_near o lt = let t : nat_lt o 0x800 ≡ true = lt-ltb o 0x800 lt in rw t refl

-- a temporary or a word of the frame, where all of them are
one_of_two : (t : Bool) (q o : ℕ) → o < 0x800 → fetch_cost (if t then source.Register q else source.Frame o) ≤ 1
one_of_two true q o lt = omega arith
one_of_two false q o lt = omega (arith, word_near o lt)

index_most : (f : Function) (x : Operand) → IndexFits f x → area_home f ≤ 0x800 → fetch_cost (source_of f x) ≤ 1
index_most f (operand.Temporary k) fit small = one_of_two (nat_lt k 8) _ _ (omega (arith, fit, small))
index_most f (operand.Cell c) fit small = one_of_two (nat_lt c f.resident) _ _ (omega (arith, fit, small))
index_most f (operand.Constant v) fit small = absurd fit
index_most f (operand.Argument k) fit small = absurd fit

kept_near : (t : Bool) (q o : ℕ) → o < 0x800 → keep_cost (if t then home.Register q else home.Frame o) ≤ 1
kept_near true q o lt = omega arith
kept_near false q o lt = omega (arith, word_near o lt)

target_most : (f : Function) (d : Target) → TargetFits f d → area_home f ≤ 0x800 → keep_cost (home_of f d) ≤ 1
target_most f (target.Temporary k) fit small = kept_near (nat_lt k 8) _ _ (omega (arith, fit, small))
target_most f (target.Cell c) fit small = kept_near (nat_lt c f.resident) _ _ (omega (arith, fit, small))

-- a size that is a power of two takes a shift
shift_most : (size : ℕ) → is_power_of_two size ≡ true → scale_cost size ≤ 1
shift_most size e =
    let one : product_cost (log2_of size) size ≡ 1 = ap (λ o. product_cost o size) (power_is size e) in
    of_either (size == 1) 0 (product_cost (log2_of size) size) 1 (omega arith) (omega (arith, one))

reach_most : (f : Function) (l : Location) → LocationFits f l → reach_cost f l ≤ 3
reach_most f (location.Statics o) fit = omega (arith, choice_most (is_near_gp o) 2)
reach_most f (location.Frame o) fit = omega (arith, far_most (area_home f + o))
reach_most f (location.At x) fit = fetch_most (source_of f x)
reach_most f (location.Indexed b y size) fit = omega (arith, index_most f y fit.1 fit.3, shift_most size fit.2)

reference_most : (f : Function) (d : Target) (l : Location) → TargetFits f d → LocationFits f l → reference_cost f (home_of f d) l ≤ 6
reference_most f d (location.Statics o) fd fit = omega (arith, one_or_more (is_near_gp o) 2 (omega arith), keep_most (home_of f d))
reference_most f d (location.Frame o) fd fit = omega (arith, keep_most (home_of f d), address_most (area_home f + o))
reference_most f d (location.At x) fd fit = move_most (home_of f d) (source_of f x)
reference_most f d (location.Indexed b y size) fd fit = omega (arith, reach_most f (location.Indexed b y size) fit, target_most f d fd fit.3)

sp_near : (n : ℕ) → 0 < n → n < 0x800 → far_frame (2 ^ 32 - n) ≡ 0
sp_near n some lt =
    let within : (2 ^ 32 - n + 0x800) % 2 ^ 32 < 0x1000 = omega (arith, some, lt) in
    let t : nat_lt ((2 ^ 32 - n + 0x800) % 2 ^ 32) 0x1000 ≡ true = lt-ltb ((2 ^ 32 - n + 0x800) % 2 ^ 32) 0x1000 within in
    rw t refl

module _ (f : Function) (small : frame_bytes f < 0x800) where
  saved_few : (n : ℕ) → n ≤ f.cells → saved_cost f n ≤ n
  saved_few zero le = omega arith
  saved_few (suc n) le = omega (arith, saved_few n (omega (arith, le)), word_near (cell_home f n) (omega (arith, le, frame_room f, small)))

  opening_few : f.resident ≤ 12 → f.resident ≤ f.cells → opening_cost f ≤ 14
  opening_few few all =
      let room = frame_room f in
      let down = sp_near (frame_bytes f) (omega (arith, room)) small in
      let back = word_near (return_home f) (omega (arith, room, small)) in
      omega (arith, few, down, back, saved_few f.resident all, frame_near (2 ^ 32 - frame_bytes f), return_near (calls f.code) (return_home f))

opening_within : (f : Function) → f.resident ≤ 12 → f.resident ≤ f.cells → opening_cost f ≤ entry_cost_of f
opening_within f few all = on (nat_lt (frame_bytes f) 0x800) refl
  where
    on : (t : Bool) → nat_lt (frame_bytes f) 0x800 ≡ t → opening_cost f ≤ entry_cost_of f
    on true e = let most : entry_cost_of f ≡ 16 = rw e refl in omega (arith, most, opening_few f (ltb-true (frame_bytes f) 0x800 e) few all)
    on false e = let most : entry_cost_of f ≡ 42 = rw e refl in omega (arith, most, opening_most f few)

module _ (p : Program) (sound : IsSoundProgram p) where
  opening : (k : ℕ) → opening_cost (function_at p k) ≤ entry_cost_of (function_at p k)
  opening k = let fit = function_fits p sound k in opening_within (function_at p k) fit.few fit.all

  step_is_more : (f : Function) → f.resident ≤ 12 → (x : Instruction) → InstructionFits (length p.functions) f x → step_cost p f x ≤ cost_in p x
  step_is_more f le instruction.Nothing fit = omega arith
  step_is_more f le (instruction.Move d x) fit = move_most (home_of f d) (source_of f x)
  step_is_more f le (instruction.Compute o d x y) fit = compute_most o (home_of f d) (source_of f x) (source_of f y)
  step_is_more f le (instruction.Convert c d x) fit = omega (arith, narrow_most c, fetch_most (source_of f x), keep_most (home_of f d))
  step_is_more f le (instruction.Load w d l) fit = omega (arith, reach_most f l fit.1, keep_most (home_of f d))
  step_is_more f le (instruction.Store w x l) fit = omega (arith, fetch_most (source_of f x), reach_most f l fit.1)
  step_is_more f le (instruction.Address d l) fit = reference_most f d l fit.0 fit.1
  step_is_more f le (instruction.Element d x y size) fit = element_most (home_of f d) (source_of f x) (source_of f y) size
  step_is_more f le (instruction.Jump to) fit = omega arith
  step_is_more f le (instruction.Branch t x y to) fit = omega (arith, fetch_most (source_of f x), fetch_most (source_of f y))
  step_is_more f le (instruction.Call g) fit = omega (arith, few_at_call (calls_are_near p), opening g)
  step_is_more f le instruction.PutByte fit = omega (arith, address_most (byte_home f))
  step_is_more f le instruction.GetByte fit = omega (arith, address_most (byte_home f))
  step_is_more f le instruction.Exit fit = omega arith
  step_is_more f le instruction.Return fit = omega (arith, le, return_near (calls f.code) (return_home f), saved_most f f.resident, far_most (return_home f), frame_most (frame_bytes f))

  chosen_is_more : (f : Function) → f.resident ≤ 12 → (x : Instruction) → InstructionFits (length p.functions) f x → (t : Bool) → step_cost p f (if t then instruction.Nothing else x) ≤ cost_in p x
  chosen_is_more f le x fit true = omega arith
  chosen_is_more f le x fit false = step_is_more f le x fit

  at_is_more : (f : Function) → f.resident ≤ 12 → (k : ℕ) (x : Instruction) → InstructionFits (length p.functions) f x → most_at p f k x ≤ cost_in p x
  at_is_more f le k instruction.Nothing fit = step_is_more f le instruction.Nothing fit
  at_is_more f le k (instruction.Move d x) fit = chosen_is_more f le (instruction.Move d x) fit (is_same d x)
  at_is_more f le k (instruction.Compute o d x y) fit = step_is_more f le (instruction.Compute o d x y) fit
  at_is_more f le k (instruction.Convert c d x) fit = step_is_more f le (instruction.Convert c d x) fit
  at_is_more f le k (instruction.Load w d l) fit = step_is_more f le (instruction.Load w d l) fit
  at_is_more f le k (instruction.Store w x l) fit = step_is_more f le (instruction.Store w x l) fit
  at_is_more f le k (instruction.Address d l) fit = step_is_more f le (instruction.Address d l) fit
  at_is_more f le k (instruction.Element d x y size) fit = step_is_more f le (instruction.Element d x y size) fit
  at_is_more f le k (instruction.Jump to) fit = chosen_is_more f le (instruction.Jump to) fit (skips_nothing f.code k to)
  at_is_more f le k (instruction.Branch t x y to) fit = step_is_more f le (instruction.Branch t x y to) fit
  at_is_more f le k (instruction.Call g) fit = step_is_more f le (instruction.Call g) fit
  at_is_more f le k instruction.PutByte fit = step_is_more f le instruction.PutByte fit
  at_is_more f le k instruction.GetByte fit = step_is_more f le instruction.GetByte fit
  at_is_more f le k instruction.Exit fit = step_is_more f le instruction.Exit fit
  at_is_more f le k instruction.Return fit = step_is_more f le instruction.Return fit

  if_is_more : (f : Function) → FunctionFits (length p.functions) f → (k : ℕ) (o : Option Instruction) → slice_get f.code k ≡ o → most_if p f k o ≤ cost_in_if p o
  if_is_more f fit k None e = omega arith
  if_is_more f fit k (Some x) e = at_is_more f fit.few k x (fit.each k x e)

  rest_is_more : (n : ℕ) → ((s : State) → most_spent p n s ≤ spent_in p n s) → (x : Progress) → cost_on x (most_spent p n) ≤ cost_on x (spent_in p n)
  rest_is_more n more (running s) = more s
  rest_is_more n more (ended status input trace) = omega arith
  rest_is_more n more stuck = omega arith

  all_is_more : (n : ℕ) (s : State) → most_spent p n s ≤ spent_in p n s
  all_is_more zero s = omega arith
  all_is_more (suc n) s =
      let now : most_next p s ≤ cost_in_if p (next_of p s) = if_is_more (function_at p s.frame.function) (function_fits p sound s.frame.function) s.frame.at (next_of p s) refl in
      let later : cost_on (step p s) (most_spent p n) ≤ cost_on (step p s) (spent_in p n) = rest_is_more n (all_is_more n) (step p s) in
      omega (arith, now, later)

pub spent_is_more : SpentIsMore
spent_is_more p sound = (omega (arith, opening p sound p.main), all_is_more p sound)
