-- Flat code: the input of the last step before the machine's instructions. A function has temporaries, which a call may lose, and
-- a frame of words and bytes, which it keeps. Its instructions are those of `src/code.rt`.
use Rattle.std.specs.Prelude.{ℕ, ◌+◌, ◌*◌, ◌/◌, Bool, List, map}
use Rattle.frames_code.specs.declared.code.Instruction.{Instruction}
use Rattle.frames_code.specs.declared.code.Function.{Function as Held}
use Rattle.frames_code.specs.declared.code.FlatProgram.{FlatProgram}

-- Its instructions; how many words its frame has; how many of them, the first ones, may live in registers; the bytes of its
-- arrays; how many temporaries from the ninth on it has, which lie at the frame's start, where arguments from the ninth on belong;
-- whether it has a result, which temporary 0 holds where it returns.
pub record Function : Type 0 where
  pub code : List Instruction
  pub cells : ℕ
  pub resident : ℕ
  pub area : ℕ
  pub outgoing : ℕ
  pub gives : Bool

-- the functions, the bytes of the statics as the program begins, and the number of main
pub record Program : Type 0 where
  pub functions : List Function
  pub statics : List ℕ
  pub main : ℕ

abbrev pub function_of : Held → Function
function_of f = record { code = f.code.items; cells = f.cells; resident = f.resident; area = f.area; outgoing = f.outgoing; gives = f.gives }

abbrev pub program_of : FlatProgram → Program
program_of p = record { functions = map function_of p.functions.items; statics = p.statics.items; main = p.main }

-- ---- frames

-- From the frame's start: the temporaries from the ninth on, a word for a byte that is written or read, the cells, the arrays; the
-- last word is for the return address.
abbrev pub cell_home : Function → ℕ → ℕ
cell_home f c = 4 * f.outgoing + 4 + 4 * c

abbrev pub area_home : Function → ℕ
area_home f = cell_home f f.cells

-- a multiple of 16, as the stack pointer is
abbrev pub frame_bytes : Function → ℕ
frame_bytes f = (area_home f + f.area + 4 + 15) / 16 * 16
