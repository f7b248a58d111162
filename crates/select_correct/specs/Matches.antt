-- The relation of the machine's state to that of flat code.
use Rattle.std.specs.Prelude.{◌≡◌, ◌≤◌, ◌<◌, ℕ, zero, suc, ◌+◌, ◌*◌, ◌-◌, ◌%◌, ◌^◌, nat_lt, true, if◌then◌else◌, List, [], ◌∷◌, length, take, slice_get, Some}
use Rattle.rv32.specs.Space.{word_at}
use Rattle.select_exec.specs.Standing.{CallAt, Stands}
use Rattle.frames_code.specs.declared.code.Instruction.{Instruction}
use Rattle.frames_code.specs.declared.code.Instruction.TheVariants as instruction
use Rattle.frames_code.specs.Code.{Function, Program, cell_home, area_home, frame_bytes}
use Rattle.frames_code.specs.Sound.{IsSoundProgram, places_of}
use Rattle.frames_code.specs.Run.{Value, word, reference, Values, Bytes, Frame, State, Progress, running, ended, stuck, function_at, bytes_of}
use Rattle.select_exec.specs.Light.{Fixed, Light, Go, Done, Fell}
use Rattle.select.specs.Program.{calls_are_near}
use Rattle.select.specs.Selected.{gp_offset, kept, calls, items_of, entry, return_home, shortened}

-- A program whose items are placed, the lowest address of the stack that may be used, and the state at the entry of its outermost call: the stack pointer, the
-- address to return to, s0 to s11, and the bytes from the stack pointer up. And a waiting call, which a statement may be about: where its frame begins (2^32:
-- none does), its return address, and its s0 to s11.
pub record Ground : Type 0 where
  pub program : Program
  pub machine : Fixed
  pub env : ℕ → ℕ
  pub floor : ℕ
  pub data_at : ℕ
  pub sp : ℕ
  pub ra : ℕ
  pub file : ℕ → ℕ
  pub bytes : ℕ → ℕ
  pub watch_sp : ℕ
  pub watch_ra : ℕ
  pub watch_file : ℕ → ℕ

-- the label of a function's first instruction
abbrev pub first_of : Program → ℕ → ℕ
first_of p f = length p.functions + places_of (take f p.functions)

-- where instruction k of a function begins
abbrev pub address : Ground → ℕ → ℕ → ℕ
address G f k = G.env (first_of G.program f + k)

-- what gp has from the program's start on
abbrev pub gp_of : Ground → ℕ
gp_of G = G.data_at + gp_offset

-- a reference's address is that of its list, whatever is active
abbrev pub shown : Ground → Value → ℕ
shown G (word w) = w
shown G (reference zero o) = (G.data_at + o) % 2 ^ 32
shown G (reference (suc l) o) = (G.sp - suc l + o) % 2 ^ 32

-- s0 to s11, by their numbers 0 to 11
abbrev pub file_of : (ℕ → ℕ) → ℕ → ℕ
file_of r j = r (kept j)

-- A resident word of the frame and the caller's register have changed places: the word is in the register ..
abbrev pub cell_at : Function → (ℕ → ℕ) → ℕ → (ℕ → ℕ) → ℕ → ℕ
cell_at f b sp s c = if nat_lt c f.resident then s c else word_at b (sp + cell_home f c)

-- .. and the register, as the frame below will see it, is in the word's home
abbrev pub file_below : Function → (ℕ → ℕ) → ℕ → (ℕ → ℕ) → ℕ → ℕ
file_below f b sp s j = if nat_lt j f.resident then word_at b (sp + cell_home f j) else s j

-- where a frame is returned to: a function that calls has the address in its frame, and ra has it in another one
abbrev pub return_at : Function → (ℕ → ℕ) → (sp ra : ℕ) → ℕ
return_at f b sp ra = if calls f.code then word_at b (sp + return_home f) else ra

abbrev pub temporary_at : (r b : ℕ → ℕ) → ℕ → ℕ → ℕ
temporary_at r b sp k = if nat_lt k 8 then r (10 + k) else word_at b (sp + 4 * (k - 8))

-- the caller has the argument among its temporaries
abbrev pub argument_at : Function → ℕ → ℕ → ℕ
argument_at f sp k = sp + (frame_bytes f + 4 * (k - 8))

-- of the first n, each that is set has its value there
abbrev pub Shows : Ground → ℕ → Values → (ℕ → ℕ) → Type 0
Shows G n values place = (k : ℕ) (v : Value) → values k ≡ Some v → (k < n) × (shown G v < 2 ^ 32) × (place k ≡ shown G v)

abbrev pub ArgumentsShow : Ground → Function → Values → (ℕ → ℕ) → ℕ → Type 0
ArgumentsShow G f values b sp =
    (k : ℕ) (v : Value) → values k ≡ Some v → (shown G v < 2 ^ 32) × (argument_at f sp k + 4 ≤ 2 ^ 31) × (word_at b (argument_at f sp k) ≡ shown G v)

abbrev pub Holds : Bytes → ℕ → (first past : ℕ) → (ℕ → ℕ) → Type 0
Holds bytes start first past b = (k c : ℕ) → bytes k ≡ Some c → (first ≤ k) × (k < past) × (b (start + k) ≡ c)

abbrev pub Small : (ℕ → ℕ) → Type 0
Small s = (j : ℕ) → s j < 2 ^ 32

pub record FrameHolds (G : Ground) (f : Function) (values : Values) (arrays : Bytes) (b : ℕ → ℕ) (sp : ℕ) (s : ℕ → ℕ) : Type 0 where
  pub aligned : sp % 16 ≡ 0
  pub small : Small s
  pub cells : Shows G f.cells values (cell_at f b sp s)
  pub area : Holds arrays sp (area_home f) (area_home f + f.area) b

-- an address to return to, of a call whose frame begins at base and which sees the registers s; it is in a function that calls
pub record Returns (G : Ground) (w : Frame) (s : ℕ → ℕ) (base ra : ℕ) : Type 0 where
  pub at_is : ra ≡ address G w.function w.at
  pub aligned : ra % 4 ≡ 0
  pub small : ra < 2 ^ 32
  pub calls : calls (function_at G.program w.function).code ≡ true
  pub seen : base ≡ G.watch_sp → (ra ≡ G.watch_ra) × ((j : ℕ) → s j ≡ G.watch_file j)

-- The calls that wait, from base up, where the one on top sees the registers s, and is returned to at ra. Below them all is the state that the outermost call
-- found at its entry.
abbrev pub Waits : Ground → List Frame → (b : ℕ → ℕ) → (s : ℕ → ℕ) → (base ra : ℕ) → Type 0
Waits G [] b s base ra =
    (base ≡ G.sp) × Small s × ((j : ℕ) → s j ≡ G.file j) × (ra ≡ G.ra) × ((k : ℕ) → base ≤ k → b k ≡ G.bytes k)
Waits G (w ∷ ws) b s base ra =
    Returns G w s base ra × FrameHolds G (function_at G.program w.function) w.cells w.area b base s
    × Waits G ws b (file_below (function_at G.program w.function) b base s) (base + frame_bytes (function_at G.program w.function))
    (word_at b (base + return_home (function_at G.program w.function)))

pub record Matched (G : Ground) (s : State) (r : ℕ → ℕ) (at : ℕ) (b : ℕ → ℕ) : Type 0 where
  pub sp : ℕ
  pub at_is : at ≡ address G s.frame.function s.frame.at
  pub sp_is : r 2 ≡ sp
  pub gp_is : r 3 ≡ gp_of G
  pub low : G.floor ≤ sp
  pub bytes : (k : ℕ) → b k < 2 ^ 8
  pub frame : FrameHolds G (function_at G.program s.frame.function) s.frame.cells s.frame.area b sp (file_of r)
  pub temporaries : Shows G (8 + (function_at G.program s.frame.function).outgoing) s.temporaries (temporary_at r b sp)
  pub arguments : ArgumentsShow G (function_at G.program s.frame.function) s.arguments b sp
  pub statics : Holds s.statics G.data_at 0 (length G.program.statics) b
  pub waits : Waits G s.waiting b (file_below (function_at G.program s.frame.function) b sp (file_of r))
      (sp + frame_bytes (function_at G.program s.frame.function)) (return_at (function_at G.program s.frame.function) b sp (r 1))

-- The outermost call has returned: the stack pointer, s0 to s11 and the bytes from the stack pointer up are as it found them, and its
-- result is in a0 (RISC-V ELF psABI, "Integer Calling Convention").
pub record Returned (G : Ground) (status : ℕ) (r : ℕ → ℕ) (at : ℕ) (b : ℕ → ℕ) : Type 0 where
  pub at_is : at ≡ G.ra
  pub sp_is : r 2 ≡ G.sp
  pub file_is : (j : ℕ) → file_of r j ≡ G.file j
  pub bytes_are : (k : ℕ) → G.sp ≤ k → b k ≡ G.bytes k
  pub status_is : r 10 % 2 ^ 8 ≡ status

-- the machine is where the flat run is, with the same trace and the same remaining input; a stuck run promises nothing
abbrev pub Matches : Ground → Progress → Light → Type 0
Matches G (running s) (Go r at b i h) = Matched G s r at b × (i ≡ s.input) × (h ≡ s.trace)
Matches G (running s) (Done x h) = ⊥
Matches G (running s) (Fell h) = ⊥
Matches G (ended status input trace) (Go r at b i h) = Returned G status r at b × (i ≡ input) × (h ≡ trace)
Matches G (ended status input trace) (Done x h) = (x ≡ status) × (h ≡ trace)
Matches G (ended status input trace) (Fell h) = ⊥
Matches G stuck m = Unit {0}

-- The items of each instruction and entry are at their labels, below 2^31; the stack and the data may be read and written, and are disjoint; the outermost call
-- is returned to at an instruction.
pub record Ready (G : Ground) : Type 0 where
  pub sound : IsSoundProgram G.program
  pub aligned : (f k : ℕ) (x : Instruction) → slice_get (function_at G.program f).code k ≡ Some x → (address G f k % 4 ≡ 0) × (address G f k < 2 ^ 31)
  pub stands : (f k : ℕ) (x : Instruction) → slice_get (function_at G.program f).code k ≡ Some x
      → Stands G.machine.text G.env G.data_at (items_of (function_at G.program f) (first_of G.program f) (shortened (function_at G.program f).code k x)) (address G f k) (address G f (k + 1))
  pub calls : (f k g : ℕ) → slice_get (function_at G.program f).code k ≡ Some (instruction.Call g)
      → CallAt (calls_are_near G.program) G.machine.text (address G f k) (G.env g) (address G f (k + 1))
  pub entries : (f : ℕ) → f < length G.program.functions → Stands G.machine.text G.env G.data_at (entry (function_at G.program f)) (G.env f) (address G f 0)
  pub entry_aligned : (f : ℕ) → f < length G.program.functions → G.env f % 4 ≡ 0
  pub stack_read : (a : ℕ) → G.floor ≤ a → a < 2 ^ 31 → G.machine.can_read a ≡ true
  pub stack_written : (a : ℕ) → G.floor ≤ a → a < 2 ^ 31 → G.machine.can_write a ≡ true
  pub data_read : (a : ℕ) → G.data_at ≤ a → a < G.data_at + length G.program.statics → G.machine.can_read a ≡ true
  pub data_written : (a : ℕ) → G.data_at ≤ a → a < G.data_at + length G.program.statics → G.machine.can_write a ≡ true
  pub data_aligned : G.data_at % 4 ≡ 0
  pub data_below : G.data_at + length G.program.statics ≤ G.floor
  pub floor_below : G.floor ≤ 2 ^ 31
  pub top : G.sp ≤ 2 ^ 31
  pub return_aligned : G.ra % 4 ≡ 0
  pub return_small : G.ra < 2 ^ 32

-- the frames of the calls that are active fit the stack
abbrev pub HasRoom : Ground → Progress → Type 0
HasRoom G (running s) = G.floor + bytes_of G.program (s.frame ∷ s.waiting) ≤ G.sp
HasRoom G (ended status input trace) = Unit {0}
HasRoom G stuck = Unit {0}

-- the frame on top begins below that of the call of which one speaks
abbrev pub IsBelow : Ground → Progress → Type 0
IsBelow G (running s) = G.sp < bytes_of G.program (s.frame ∷ s.waiting) + G.watch_sp
IsBelow G (ended status input trace) = Unit {0}
IsBelow G stuck = Unit {0}
