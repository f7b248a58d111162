-- Constant hoisting: words that a function's code has as constants are put into words of its frame, or into temporaries, at its beginning, in place of
-- instructions that do nothing, and are read there from then on.
use Rattle.std.specs.Prelude.{ℕ, zero, suc, ◌+◌, ◌==◌, ◌&&◌, nat_le, nat_lt, Bool, true, false, if◌then◌else◌, List, [], ◌∷◌, length, slice_get, Option, Some, None}
use Rattle.frames_code.specs.declared.code.Operand.{Operand}
use Rattle.frames_code.specs.declared.code.Operand.TheVariants as operand
use Rattle.frames_code.specs.declared.code.Target.{Target}
use Rattle.frames_code.specs.declared.code.Target.TheVariants as target
use Rattle.frames_code.specs.declared.code.Base.{Base}
use Rattle.frames_code.specs.declared.code.Base.TheVariants as base
use Rattle.frames_code.specs.declared.code.Location.{Location}
use Rattle.frames_code.specs.declared.code.Location.TheVariants as location
use Rattle.frames_code.specs.declared.code.Instruction.{Instruction}
use Rattle.frames_code.specs.declared.code.Instruction.TheVariants as instruction
use Rattle.frames_hoist.specs.declared.homes.Home.{Home}
use Rattle.frames_hoist.specs.declared.homes.Home.TheVariants as home

-- ---- the places of constants: words of the frame or temporaries, from a number on

abbrev pub first_of : Home → ℕ
first_of (home.Words c) = c
first_of (home.Temporaries t) = t

-- place n, as it is read
abbrev pub held_in : Home → ℕ → Operand
held_in (home.Words c) n = operand.Cell (c + n)
held_in (home.Temporaries t) n = operand.Temporary (t + n)

-- and as it is written
abbrev pub put_in : Home → ℕ → Target
put_in (home.Words c) n = target.Cell (c + n)
put_in (home.Temporaries t) n = target.Temporary (t + n)

-- ---- what else the code may name: words and temporaries before them

abbrev pub spares_word : Home → ℕ → Bool
spares_word (home.Words c) k = nat_lt k c
spares_word (home.Temporaries t) k = true

abbrev pub spares_temporary : Home → ℕ → Bool
spares_temporary (home.Words c) k = true
spares_temporary (home.Temporaries t) k = nat_lt k t

-- the arrays of a frame move where it has more words
abbrev pub spares_arrays : Home → Bool
spares_arrays (home.Words c) = false
spares_arrays (home.Temporaries t) = true

-- a call loses temporaries, and so does a byte that is put or got
abbrev pub survives_calls : Home → Bool
survives_calls (home.Words c) = true
survives_calls (home.Temporaries t) = false

abbrev pub reads_beside : Home → Operand → Bool
reads_beside h (operand.Temporary k) = spares_temporary h k
reads_beside h (operand.Cell c) = spares_word h c
reads_beside h (operand.Constant v) = true
reads_beside h (operand.Argument k) = true

abbrev pub writes_beside : Home → Target → Bool
writes_beside h (target.Temporary k) = spares_temporary h k
writes_beside h (target.Cell c) = spares_word h c

abbrev pub begins_beside : Home → Base → Bool
begins_beside h (base.Statics o) = true
begins_beside h (base.Frame o) = spares_arrays h

abbrev pub lies_beside : Home → Location → Bool
lies_beside h (location.Statics o) = true
lies_beside h (location.Frame o) = spares_arrays h
lies_beside h (location.At x) = reads_beside h x
lies_beside h (location.Indexed b y size) = begins_beside h b && reads_beside h y

-- jumps lead to instructions from `start` on; the status and the result are in temporary 0
abbrev pub is_fine : Home → ℕ → Instruction → Bool
is_fine h start instruction.Nothing = true
is_fine h start (instruction.Move d x) = writes_beside h d && reads_beside h x
is_fine h start (instruction.Compute o d x y) = writes_beside h d && (reads_beside h x && reads_beside h y)
is_fine h start (instruction.Convert c d x) = writes_beside h d && reads_beside h x
is_fine h start (instruction.Load w d l) = writes_beside h d && lies_beside h l
is_fine h start (instruction.Store w x l) = reads_beside h x && lies_beside h l
is_fine h start (instruction.Address d l) = writes_beside h d && lies_beside h l
is_fine h start (instruction.Element d x y size) = writes_beside h d && (reads_beside h x && reads_beside h y)
is_fine h start (instruction.Jump to) = nat_le start to
is_fine h start (instruction.Branch t x y to) = reads_beside h x && (reads_beside h y && nat_le start to)
is_fine h start (instruction.Call f) = survives_calls h
is_fine h start instruction.PutByte = survives_calls h
is_fine h start instruction.GetByte = survives_calls h
is_fine h start instruction.Exit = spares_temporary h 0
is_fine h start instruction.Return = spares_temporary h 0

-- only the next instruction comes after it
abbrev pub is_straight : Instruction → Bool
is_straight instruction.Nothing = true
is_straight (instruction.Move d x) = true
is_straight (instruction.Compute o d x y) = true
is_straight (instruction.Convert c d x) = true
is_straight (instruction.Load w d l) = true
is_straight (instruction.Store w x l) = true
is_straight (instruction.Address d l) = true
is_straight (instruction.Element d x y size) = true
is_straight (instruction.Jump to) = false
is_straight (instruction.Branch t x y to) = false
is_straight (instruction.Call f) = false
is_straight instruction.PutByte = false
is_straight instruction.GetByte = false
is_straight instruction.Exit = false
is_straight instruction.Return = false

abbrev pub is_nothing : Instruction → Bool
is_nothing instruction.Nothing = true
is_nothing (instruction.Move d x) = false
is_nothing (instruction.Compute o d x y) = false
is_nothing (instruction.Convert c d x) = false
is_nothing (instruction.Load w d l) = false
is_nothing (instruction.Store w x l) = false
is_nothing (instruction.Address d l) = false
is_nothing (instruction.Element d x y size) = false
is_nothing (instruction.Jump to) = false
is_nothing (instruction.Branch t x y to) = false
is_nothing (instruction.Call f) = false
is_nothing instruction.PutByte = false
is_nothing instruction.GetByte = false
is_nothing instruction.Exit = false
is_nothing instruction.Return = false

-- ---- constants read from their places

-- where the first of the list is in place n
abbrev pub word_for : Home → ℕ → List ℕ → ℕ → Operand
word_for h n [] v = operand.Constant v
word_for h n (w ∷ pool) v = if w == v then held_in h n else word_for h (n + 1) pool v

abbrev pub from_pool : Home → List ℕ → Operand → Operand
from_pool h pool (operand.Temporary k) = operand.Temporary k
from_pool h pool (operand.Cell k) = operand.Cell k
from_pool h pool (operand.Constant v) = word_for h 0 pool v
from_pool h pool (operand.Argument k) = operand.Argument k

abbrev pub with_pool : Home → List ℕ → Instruction → Instruction
with_pool h pool instruction.Nothing = instruction.Nothing
with_pool h pool (instruction.Move d x) = instruction.Move d (from_pool h pool x)
with_pool h pool (instruction.Compute o d x y) = instruction.Compute o d (from_pool h pool x) (from_pool h pool y)
with_pool h pool (instruction.Convert k d x) = instruction.Convert k d x
with_pool h pool (instruction.Load w d l) = instruction.Load w d l
with_pool h pool (instruction.Store w x l) = instruction.Store w (from_pool h pool x) l
with_pool h pool (instruction.Address d l) = instruction.Address d l
with_pool h pool (instruction.Element d x y size) = instruction.Element d x y size
with_pool h pool (instruction.Jump to) = instruction.Jump to
with_pool h pool (instruction.Branch t x y to) = instruction.Branch t (from_pool h pool x) (from_pool h pool y) to
with_pool h pool (instruction.Call f) = instruction.Call f
with_pool h pool instruction.PutByte = instruction.PutByte
with_pool h pool instruction.GetByte = instruction.GetByte
with_pool h pool instruction.Exit = instruction.Exit
with_pool h pool instruction.Return = instruction.Return

-- ---- constants put into their places, the first n of them before

abbrev pub put_word : Home → ℕ → Option ℕ → Instruction
put_word h n None = instruction.Nothing
put_word h n (Some w) = instruction.Move (put_in h n) (operand.Constant w)

abbrev pub filled : Home → List ℕ → ℕ → Instruction → Instruction
filled h pool n x = if is_nothing x then put_word h n (slice_get pool n) else x

-- so many of m words after it
abbrev pub more_filled : ℕ → ℕ → Instruction → ℕ
more_filled m n x = if is_nothing x && nat_lt n m then n + 1 else n

-- instruction k; those before `start` put the words into their places
abbrev pub hoisted_one : Home → List ℕ → (start k n : ℕ) → Instruction → Instruction
hoisted_one h pool start k n x = if nat_lt k start then filled h pool n x else with_pool h pool x

abbrev pub next_filled : ℕ → (start k n : ℕ) → Instruction → ℕ
next_filled m start k n x = if nat_lt k start then more_filled m n x else n

-- code from instruction k on
abbrev pub hoisted : Home → List ℕ → (start k n : ℕ) → List Instruction → List Instruction
hoisted h pool start k n [] = []
hoisted h pool start k n (x ∷ xs) = hoisted_one h pool start k n x ∷ hoisted h pool start (k + 1) (next_filled (length pool) start k n x) xs

-- how many of m words are in their places before instruction j, where the code begins with instruction k and n of them
abbrev pub filled_at : ℕ → (start k n : ℕ) → List Instruction → ℕ → ℕ
filled_at m start k n [] j = n
filled_at m start k n (x ∷ xs) zero = n
filled_at m start k n (x ∷ xs) (suc j) = filled_at m start (k + 1) (next_filled m start k n x) xs j

abbrev pub is_straight_at : (start k : ℕ) → Instruction → Bool
is_straight_at start k x = if nat_lt k start then is_straight x else true

-- the first instructions, up to `start`, are straight, where the code begins with instruction k
abbrev pub are_straight : (start k : ℕ) → List Instruction → Bool
are_straight start k [] = true
are_straight start k (x ∷ xs) = is_straight_at start k x && are_straight start (k + 1) xs
