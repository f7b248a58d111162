-- The most bytes of code, with all branches long, that each flat instruction is selected to.
use Rattle.std.specs.Prelude.{ℕ, zero, suc, ◌≤◌, ◌+◌, ◌==◌, nat_lt, if◌then◌else◌, sum_by}
use Rattle.asm.specs.Layout.{longest}
use Rattle.frames_code.specs.declared.code.Location.{Location}
use Rattle.frames_code.specs.declared.code.Location.TheVariants as location
use Rattle.frames_code.specs.declared.code.Instruction.{Instruction}
use Rattle.frames_code.specs.declared.code.Instruction.TheVariants as instruction
use Rattle.frames_code.specs.Code.{Function, cell_home}
use Rattle.select.specs.declared.places.Source.{Source}
use Rattle.select.specs.declared.places.Source.TheVariants as source
use Rattle.select.specs.declared.places.Home.{Home}
use Rattle.select.specs.declared.places.Home.TheVariants as home
use Rattle.select.specs.Selected.{source_of, home_of, return_home}
use Rattle.select.specs.Program.{function_items}

-- a load or a store of a word of the frame, within the reach of 12 bits or past it
abbrev pub word_bytes : ℕ → ℕ
word_bytes o = if nat_lt o 0x800 then 4 else 12

abbrev pub fetch_bytes : Source → ℕ
fetch_bytes (source.Register r) = 0
fetch_bytes (source.Frame o) = word_bytes o
fetch_bytes (source.Constant v) = 8

abbrev pub keep_bytes : Home → ℕ
keep_bytes (home.Register r) = 0
keep_bytes (home.Frame o) = word_bytes o

abbrev pub into_bytes : Source → ℕ
into_bytes (source.Register r) = 4
into_bytes (source.Frame o) = word_bytes o
into_bytes (source.Constant v) = 8

abbrev pub move_bytes : Home → Source → ℕ
move_bytes (home.Register r) x = into_bytes x
move_bytes (home.Frame o) x = fetch_bytes x + word_bytes o

-- to advance by elements of this size: a sum, after a shift or a product with a constant, except for one byte
abbrev pub scale_bytes : ℕ → ℕ
scale_bytes size = if size == 1 then 4 else (if size == 2 then 8 else (if size == 4 then 8 else 16))

abbrev pub reach_bytes : Function → Location → ℕ
reach_bytes f (location.Statics o) = 8
reach_bytes f (location.Frame o) = 8
reach_bytes f (location.At x) = fetch_bytes (source_of f x)
reach_bytes f (location.Indexed b y size) = fetch_bytes (source_of f y) + scale_bytes size

abbrev pub reference_bytes : Function → Home → Location → ℕ
reference_bytes f d (location.Statics o) = 8 + keep_bytes d
reference_bytes f d (location.Frame o) = 12 + keep_bytes d
reference_bytes f d (location.At x) = move_bytes d (source_of f x)
reference_bytes f d (location.Indexed b y size) = fetch_bytes (source_of f y) + (scale_bytes size + (4 + keep_bytes d))

-- the homes of the first n resident words
abbrev pub saved_bytes : Function → ℕ → ℕ
saved_bytes f zero = 0
saved_bytes f (suc n) = saved_bytes f n + word_bytes (cell_home f n)

abbrev pub entry_bytes : Function → ℕ
entry_bytes f = 12 + (word_bytes (return_home f) + saved_bytes f f.resident)

abbrev pub instruction_bytes : Function → Instruction → ℕ
instruction_bytes f instruction.Nothing = 0
instruction_bytes f (instruction.Move d x) = move_bytes (home_of f d) (source_of f x)
instruction_bytes f (instruction.Compute o d x y) = fetch_bytes (source_of f x) + (fetch_bytes (source_of f y) + (8 + keep_bytes (home_of f d)))
instruction_bytes f (instruction.Convert c d x) = fetch_bytes (source_of f x) + (8 + keep_bytes (home_of f d))
instruction_bytes f (instruction.Load w d l) = reach_bytes f l + (4 + keep_bytes (home_of f d))
instruction_bytes f (instruction.Store w x l) = fetch_bytes (source_of f x) + (reach_bytes f l + 4)
instruction_bytes f (instruction.Address d l) = reference_bytes f (home_of f d) l
instruction_bytes f (instruction.Element d x y size) = fetch_bytes (source_of f x) + (fetch_bytes (source_of f y) + (scale_bytes size + keep_bytes (home_of f d)))
instruction_bytes f (instruction.Jump to) = 4
instruction_bytes f (instruction.Branch t x y to) = fetch_bytes (source_of f x) + (fetch_bytes (source_of f y) + 8)
instruction_bytes f (instruction.Call g) = 8
instruction_bytes f instruction.PutByte = 52
instruction_bytes f instruction.GetByte = 48
instruction_bytes f instruction.Exit = 8
instruction_bytes f instruction.Return = saved_bytes f f.resident + (word_bytes (return_home f) + 16)

-- a function's code is no longer than the sum of its rows
abbrev pub CodeIsShort : Type 0
CodeIsShort = (f : Function) (k first : ℕ) → longest (function_items k first f) ≤ entry_bytes f + sum_by (instruction_bytes f) f.code
