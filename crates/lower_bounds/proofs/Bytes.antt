-- The bytes of an instruction are within its room, whatever its operands are.
use Rattle.std.proofs.Common.{ℕ, ◌+◌, ◌≤◌, Bool, true, false, arith}
use Rattle.std.specs.Prelude.{nat_lt, if◌then◌else◌}
use Rattle.std.proofs.Math.Nat.{max-le}
use Rattle.ctypes.specs.Types.{bytes_of}
use Rattle.tac_code.specs.declared.code.Operand.{Operand}
use Rattle.tac_code.specs.declared.code.Operand.TheVariants as operand
use Rattle.tac_code.specs.declared.code.Target.{Target}
use Rattle.tac_code.specs.declared.code.Target.TheVariants as target
use Rattle.tac_code.specs.declared.code.Place.{Place as Spot}
use Rattle.tac_code.specs.declared.code.Place.TheVariants as place
use Rattle.tac_code.specs.declared.code.Instruction.{Instruction}
use Rattle.tac_code.specs.declared.code.Instruction.TheVariants as instruction
use Rattle.tac_code.specs.Costs.{temporary_bytes, fetch_bytes, keep_bytes, move_bytes, reach_bytes, reference_bytes, scale_bytes, code_bytes}
use Rattle.lower_bounds.specs.inside.Rooms.{room_of, coarse_of}

same_le : (n : ℕ) → n ≤ n
same_le n = omega arith

-- ---- operands

temporary_by : (b : Bool) → (if b then 0 else 12) ≤ 12
temporary_by true = omega arith
temporary_by false = omega arith

temporary_le : (k : ℕ) → temporary_bytes k ≤ 12
temporary_le k = temporary_by (nat_lt k 8)

pub fetch_le : (o : Operand) → fetch_bytes o ≤ 12
fetch_le (operand.Temporary k) = temporary_le k
fetch_le (operand.Kept k) = same_le 12
fetch_le (operand.Object n) = same_le 12
fetch_le (operand.Parameter n) = same_le 12
fetch_le (operand.Constant v) = omega arith

keep_le : (d : Target) → keep_bytes d ≤ 12
keep_le (target.Temporary k) = temporary_le k
keep_le (target.Kept k) = same_le 12
keep_le (target.Object n) = same_le 12

two_words : (x d : ℕ) → x ≤ 12 → d ≤ 12 → x + d ≤ 24
two_words x d hx hd = omega (arith, hx, hd)

move_le : (d : Target) (x : Operand) → move_bytes d x ≤ 24
move_le d x = max-le (let e : 4 ≤ 24 = omega arith in e) (two_words (fetch_bytes x) (keep_bytes d) (fetch_le x) (keep_le d))

reach_le : (a : Spot) → reach_bytes a ≤ 12
reach_le (place.Literal n) = omega arith
reach_le (place.Static n) = omega arith
reach_le (place.Array n) = omega arith
reach_le (place.Element n i t) = omega arith
reach_le (place.At x) = fetch_le x

short_reference : (d : ℕ) → d ≤ 12 → 8 + d ≤ 24
short_reference d h = omega (arith, h)

reference_le : (d : Target) (a : Spot) → reference_bytes d a ≤ 24
reference_le d (place.Literal n) = short_reference (keep_bytes d) (keep_le d)
reference_le d (place.Static n) = short_reference (keep_bytes d) (keep_le d)
reference_le d (place.Array n) = two_words 12 (keep_bytes d) (same_le 12) (keep_le d)
reference_le d (place.Element n i t) = two_words 12 (keep_bytes d) (same_le 12) (keep_le d)
reference_le d (place.At x) = move_le d x

scale_by : (b : Bool) → (if b then 4 else 8) ≤ 8
scale_by true = omega arith
scale_by false = omega arith

scale_le : (size : ℕ) → scale_bytes size ≤ 8
scale_le size = scale_by (nat_lt size 2)

-- ---- instructions

compute_le : (x y d : ℕ) → x ≤ 12 → y ≤ 12 → d ≤ 12 → x + (y + (8 + d)) ≤ 44
compute_le x y d hx hy hd = omega (arith, hx, hy, hd)

convert_le : (x d : ℕ) → x ≤ 12 → d ≤ 12 → x + (8 + d) ≤ 32
convert_le x d hx hd = omega (arith, hx, hd)

load_le : (l d : ℕ) → l ≤ 12 → d ≤ 12 → l + (4 + d) ≤ 28
load_le l d hl hd = omega (arith, hl, hd)

store_le : (x l : ℕ) → x ≤ 12 → l ≤ 12 → x + (l + 4) ≤ 28
store_le x l hx hl = omega (arith, hx, hl)

part_le : (x y d : ℕ) → x ≤ 12 → y ≤ 12 → d ≤ 12 → x + (y + (16 + d)) ≤ 52
part_le x y d hx hy hd = omega (arith, hx, hy, hd)

element_le : (x y s d : ℕ) → x ≤ 12 → y ≤ 12 → s ≤ 8 → d ≤ 12 → x + (y + (s + d)) ≤ 44
element_le x y s d hx hy hs hd = omega (arith, hx, hy, hs, hd)

branch_le : (x y : ℕ) → x ≤ 12 → y ≤ 12 → x + (y + 8) ≤ 32
branch_le x y hx hy = omega (arith, hx, hy)

bytes_within : (x : Instruction) → code_bytes x ≤ coarse_of x
bytes_within instruction.Nothing = omega arith
bytes_within (instruction.Move d x) = move_le d x
bytes_within (instruction.Compute o r d x y) = compute_le (fetch_bytes x) (fetch_bytes y) (keep_bytes d) (fetch_le x) (fetch_le y) (keep_le d)
bytes_within (instruction.Convert t d x) = convert_le (fetch_bytes x) (keep_bytes d) (fetch_le x) (keep_le d)
bytes_within (instruction.Load t d l) = load_le (reach_bytes l) (keep_bytes d) (reach_le l) (keep_le d)
bytes_within (instruction.Store t x l) = store_le (fetch_bytes x) (reach_bytes l) (fetch_le x) (reach_le l)
bytes_within (instruction.Address d l) = reference_le d l
bytes_within (instruction.Part d x y size) = part_le (fetch_bytes x) (fetch_bytes y) (keep_bytes d) (fetch_le x) (fetch_le y) (keep_le d)
bytes_within (instruction.Element t d x y) =
    element_le (fetch_bytes x) (fetch_bytes y) (scale_bytes (bytes_of t)) (keep_bytes d) (fetch_le x) (fetch_le y) (scale_le (bytes_of t)) (keep_le d)
bytes_within (instruction.Forget n k) = omega arith
bytes_within (instruction.Jump to) = same_le 4
bytes_within (instruction.Branch c r x y to) = branch_le (fetch_bytes x) (fetch_bytes y) (fetch_le x) (fetch_le y)
bytes_within (instruction.Call f) = same_le 8
bytes_within instruction.PutByte = same_le 52
bytes_within instruction.GetByte = same_le 48
bytes_within instruction.Exit = same_le 8
bytes_within instruction.Return = same_le 172

some_bytes : (x : Instruction) → 4 ≤ coarse_of x
some_bytes instruction.Nothing = omega arith
some_bytes (instruction.Move d x) = omega arith
some_bytes (instruction.Compute o r d x y) = omega arith
some_bytes (instruction.Convert t d x) = omega arith
some_bytes (instruction.Load t d l) = omega arith
some_bytes (instruction.Store t x l) = omega arith
some_bytes (instruction.Address d l) = omega arith
some_bytes (instruction.Part d x y size) = omega arith
some_bytes (instruction.Element t d x y) = omega arith
some_bytes (instruction.Forget n k) = omega arith
some_bytes (instruction.Jump to) = omega arith
some_bytes (instruction.Branch c r x y to) = omega arith
some_bytes (instruction.Call f) = omega arith
some_bytes instruction.PutByte = omega arith
some_bytes instruction.GetByte = omega arith
some_bytes instruction.Exit = omega arith
some_bytes instruction.Return = omega arith

pub within_coarse : (x : Instruction) → room_of x ≤ coarse_of x
within_coarse x = max-le (some_bytes x) (bytes_within x)
