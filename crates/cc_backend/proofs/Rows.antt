-- Each row of `select`'s table is within that of flattening's.
use Rattle.std.proofs.Common.{◌≡◌, ℕ, zero, suc, ◌+◌, ◌-◌, ◌*◌, ◌<◌, ◌≤◌, max, Bool, true, false, refl, arith}
use Rattle.std.specs.Prelude.{if◌then◌else◌, nat_lt, ◌==◌, sum_by}
use Rattle.std.proofs.Math.Nat.{le-max_left, le-max_right}
use Rattle.std.proofs.lemmas.Bool.{lt-ltb, ltb-true}
use Rattle.std.proofs.lemmas.List.Sums.{sum_by-le-sum_by}
use Rattle.frames_code.specs.declared.code.Operand.{Operand}
use Rattle.frames_code.specs.declared.code.Operand.TheVariants as operand
use Rattle.frames_code.specs.declared.code.Target.{Target}
use Rattle.frames_code.specs.declared.code.Target.TheVariants as target
use Rattle.frames_code.specs.declared.code.Location.{Location}
use Rattle.frames_code.specs.declared.code.Location.TheVariants as location
use Rattle.frames_code.specs.declared.code.Instruction.{Instruction}
use Rattle.frames_code.specs.declared.code.Instruction.TheVariants as instruction
use Rattle.frames_code.specs.Code.{Function, cell_home, area_home, frame_bytes}
use Rattle.select.specs.declared.places.Source.{Source}
use Rattle.select.specs.declared.places.Source.TheVariants as source
use Rattle.select.specs.declared.places.Home.{Home}
use Rattle.select.specs.declared.places.Home.TheVariants as home
use Rattle.select.specs.Selected.{argument, kept, source_of, home_of, return_home}
use Rattle.select.specs.Bytes.{word_bytes, fetch_bytes, keep_bytes, into_bytes, move_bytes, reach_bytes, reference_bytes, saved_bytes, entry_bytes, instruction_bytes}
use Rattle.frames_code.specs.Costs.{entry_cost_of}
use Rattle.frames.specs.Costs as flat
use Rattle.frames.specs.Costs.{code_bytes}
use Rattle.cc_backend.specs.Sizes.{RowsFit}

either : (b : Bool) → (if b then 4 else 12) ≤ 12
either true = omega arith
either false = omega arith

word_fits : (o : ℕ) → word_bytes o ≤ 12
word_fits o = either (nat_lt o 0x800)

home_or : (b : Bool) (r o n : ℕ) → 12 ≤ n → fetch_bytes (if b then source.Register r else source.Frame o) ≤ (if b then 0 else n)
home_or true r o n h = omega arith
home_or false r o n h = omega (arith, h, word_fits o)

any_home : (b : Bool) (r o : ℕ) → fetch_bytes (if b then source.Register r else source.Frame o) ≤ 12
any_home true r o = omega arith
any_home false r o = word_fits o

nothing_or : (b : Bool) (v : ℕ) → fetch_bytes (if b then source.Register 0 else source.Constant v) ≤ 8
nothing_or true v = omega arith
nothing_or false v = omega arith

fetch_fits : (f : Function) (x : Operand) → fetch_bytes (source_of f x) ≤ flat.fetch_bytes x
fetch_fits f (operand.Temporary k) = home_or (nat_lt k 8) (argument k) (4 * (k - 8)) 12 (omega arith)
fetch_fits f (operand.Cell c) = any_home (nat_lt c f.resident) (kept c) (cell_home f c)
fetch_fits f (operand.Constant v) = nothing_or (v == 0) v
fetch_fits f (operand.Argument k) = word_fits (frame_bytes f + 4 * (k - 8))

kept_or : (b : Bool) (r o : ℕ) → keep_bytes (if b then home.Register r else home.Frame o) ≤ (if b then 0 else 12)
kept_or true r o = omega arith
kept_or false r o = word_fits o

any_kept : (b : Bool) (r o : ℕ) → keep_bytes (if b then home.Register r else home.Frame o) ≤ 12
any_kept true r o = omega arith
any_kept false r o = word_fits o

keep_fits : (f : Function) (d : Target) → keep_bytes (home_of f d) ≤ flat.keep_bytes d
keep_fits f (target.Temporary k) = kept_or (nat_lt k 8) (argument k) (4 * (k - 8))
keep_fits f (target.Cell c) = any_kept (nat_lt c f.resident) (kept c) (cell_home f c)

no_more : (a b c : ℕ) → a ≤ b → b ≤ c → a ≤ c
no_more a b c p q = omega (arith, p, q)

in_max : (a f k : ℕ) → a ≤ f → a ≤ max 4 (f + k)
in_max a f k h = no_more a (f + k) (max 4 (f + k)) (omega (arith, h)) (le-max_right 4 (f + k))

into_within : (x : Source) (f k : ℕ) → fetch_bytes x ≤ f → into_bytes x ≤ max 4 (f + k)
into_within (source.Register r) f k h = le-max_left 4 (f + k)
into_within (source.Frame o) f k h = in_max (word_bytes o) f k h
into_within (source.Constant v) f k h = in_max 8 f k h

move_within : (d : Home) (x : Source) (f k : ℕ) → fetch_bytes x ≤ f → keep_bytes d ≤ k → move_bytes d x ≤ max 4 (f + k)
move_within (home.Register r) x f k h q = into_within x f k h
move_within (home.Frame o) x f k h q = no_more (fetch_bytes x + word_bytes o) (f + k) (max 4 (f + k)) (omega (arith, h, q)) (le-max_right 4 (f + k))

move_fits : (f : Function) (d : Target) (x : Operand) → move_bytes (home_of f d) (source_of f x) ≤ flat.move_bytes d x
move_fits f d x = move_within (home_of f d) (source_of f x) (flat.fetch_bytes x) (flat.keep_bytes d) (fetch_fits f x) (keep_fits f d)

reach_fits : (f : Function) (l : Location) → reach_bytes f l ≤ flat.reach_bytes l
reach_fits f (location.Statics o) = omega arith
reach_fits f (location.Frame o) = omega arith
reach_fits f (location.At x) = fetch_fits f x
reach_fits f (location.Indexed b y size) = let a = fetch_fits f y in omega (arith, a)

reference_fits : (f : Function) (d : Target) (l : Location) → reference_bytes f (home_of f d) l ≤ flat.reference_bytes d l
reference_fits f d (location.Statics o) = let a = keep_fits f d in omega (arith, a)
reference_fits f d (location.Frame o) = let a = keep_fits f d in omega (arith, a)
reference_fits f d (location.At x) = move_fits f d x
reference_fits f d (location.Indexed b y size) = omega (arith, fetch_fits f y, keep_fits f d)

saved_fits : (f : Function) (n : ℕ) → saved_bytes f n ≤ 12 * n
saved_fits f zero = omega arith
saved_fits f (suc n) = let a = saved_fits f n in let b = word_fits (cell_home f n) in omega (arith, a, b)

module _ (f : Function) (few : f.resident ≤ 12) where
  saved : saved_bytes f f.resident ≤ 144
  saved = let a = saved_fits f f.resident in omega (arith, a, few)

  row_fits : (i : Instruction) → instruction_bytes f i ≤ code_bytes i
  row_fits instruction.Nothing = omega arith
  row_fits (instruction.Move d x) = move_fits f d x
  row_fits (instruction.Compute o d x y) = omega (arith, fetch_fits f x, fetch_fits f y, keep_fits f d)
  row_fits (instruction.Convert t d x) = omega (arith, fetch_fits f x, keep_fits f d)
  row_fits (instruction.Load w d l) = omega (arith, reach_fits f l, keep_fits f d)
  row_fits (instruction.Store w x l) = omega (arith, fetch_fits f x, reach_fits f l)
  row_fits (instruction.Address d l) = reference_fits f d l
  row_fits (instruction.Element d x y size) = omega (arith, fetch_fits f x, fetch_fits f y, keep_fits f d)
  row_fits (instruction.Jump to) = omega arith
  row_fits (instruction.Branch t x y to) = omega (arith, fetch_fits f x, fetch_fits f y)
  row_fits (instruction.Call g) = omega arith
  row_fits instruction.PutByte = omega arith
  row_fits instruction.GetByte = omega arith
  row_fits instruction.Exit = omega arith
  row_fits instruction.Return = let a = word_fits (return_home f) in omega (arith, a, saved)

  all_fit : sum_by (instruction_bytes f) f.code ≤ sum_by code_bytes f.code
  all_fit = sum_by-le-sum_by (instruction_bytes f) code_bytes f.code row_fits

  entry_fits : entry_bytes f ≤ 168
  entry_fits = let a = word_fits (return_home f) in omega (arith, a, saved)

-- ---- the entry, where the whole frame is within the reach of 12 bits

word_near : (o : ℕ) → o < 0x800 → word_bytes o ≡ 4
word_near o lt = let t : nat_lt o 0x800 ≡ true = lt-ltb o 0x800 lt in rw t refl

-- the words precede the address to return to
frame_room : (f : Function) → area_home f + f.area + 4 ≤ frame_bytes f
frame_room f = omega arith

module _ (f : Function) (small : frame_bytes f < 0x800) where
  saved_near : (n : ℕ) → n ≤ f.cells → saved_bytes f n ≡ 4 * n
  saved_near zero le = refl
  saved_near (suc n) le = let a = saved_near n (omega (arith, le)) in let b = word_near (cell_home f n) (omega (arith, le, frame_room f, small)) in omega (arith, a, b)

  entry_near : f.resident ≤ 12 → f.resident ≤ f.cells → entry_bytes f ≤ 64
  entry_near few all = let a = word_near (return_home f) (omega (arith, frame_room f, small)) in let b = saved_near f.resident all in omega (arith, few, a, b)

entry_within : (f : Function) → f.resident ≤ 12 → f.resident ≤ f.cells → entry_bytes f ≤ 4 * entry_cost_of f
entry_within f few all = on (nat_lt (frame_bytes f) 0x800) refl
  where
    on : (t : Bool) → nat_lt (frame_bytes f) 0x800 ≡ t → entry_bytes f ≤ 4 * entry_cost_of f
    on true e = let most : entry_cost_of f ≡ 16 = rw e refl in let a = entry_near f (ltb-true (frame_bytes f) 0x800 e) few all in omega (arith, most, a)
    on false e = let most : entry_cost_of f ≡ 42 = rw e refl in let a = entry_fits f few in omega (arith, most, a)

pub rows_fit : RowsFit
rows_fit f few all = let a = entry_within f few all in let b = all_fit f few in omega (arith, a, b)
