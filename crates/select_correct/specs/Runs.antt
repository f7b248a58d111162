-- Simulation of whole runs: one step, n steps, a program's entry and its end.
use Rattle.std.specs.Prelude.{◌≡◌, ◌≤◌, ◌<◌, ℕ, ◌+◌, ◌-◌, ◌*◌, ◌%◌, ◌^◌, true, false, List, [], ◌∷◌, length, slice_get, Some}
use Rattle.memory_map.specs.MemoryMap.{stack_end}
use Rattle.rv32.specs.Space.{word_at}
use Rattle.rv32.specs.Step.{register}
use Rattle.asm.specs.Placed.{Stands}
use Rattle.csem_events.specs.Events.{Event}
use Rattle.frames_code.specs.declared.code.Instruction.TheVariants as instruction
use Rattle.frames_code.specs.Code.{Program}
use Rattle.frames_code.specs.Sound.{IsSoundProgram, places_of}
use Rattle.frames_code.specs.Run.{Value, word, Values, Bytes, unset, State, Progress, running, ended, stuck, entered, function_at, bytes_of, step, run, start}
use Rattle.sim.specs.Runs.{World, Running, Ended, rvrun}
use Rattle.select_exec.specs.Light.{Fixed, Light, Go, Done, Fell, Comes}
use Rattle.select_exec.specs.Whole.{Permits, fixed}
use Rattle.select_exec.specs.Worlds.{Registers, world}
use Rattle.select.specs.Selected.{kept}
use Rattle.select.specs.Program.{program_items}
use Rattle.select_correct.specs.Matches.{Ground, Ready, Matched, Matches, HasRoom, IsBelow, Holds, Small, address, first_of, file_of, gp_of, shown}
use Rattle.frames_code.specs.Costs.{next_of}
use Rattle.select_correct.specs.Costs.{least_if, least_spent, opening_cost, step_cost, most_next, most_spent, most_start}
use Rattle.select_correct.specs.Laws.{Anything, AreBytes}

-- For any instruction there; also where there is none, or the step is stuck.
abbrev pub StepFollows : Type 0
StepFollows =
    (G : Ground) (s : State) (r b : ℕ → ℕ) → Ready G → Matched G s r (address G s.frame.function s.frame.at) b → IsBelow G (running s) → AreBytes s.input → HasRoom G (step G.program s)
    → Comes G.machine Anything (least_if (function_at G.program s.frame.function) s.frame.at (next_of G.program s)) (most_next G.program s) (Go r (address G s.frame.function s.frame.at) b s.input s.trace) (Matches G (step G.program s))

-- After n steps of flat code, after a count of instructions between the sums of the table's rows, the machine matches, where all frames on
-- the way fit the stack, and are below the waiting call that `Ground` singles out, if any.
abbrev pub RunsFollow : Type 0
RunsFollow =
    (G : Ground) (n : ℕ) (s : State) (r b : ℕ → ℕ) → Ready G → Matched G s r (address G s.frame.function s.frame.at) b → AreBytes s.input → ((k : ℕ) → k ≤ n → HasRoom G (run G.program k s)) → ((k : ℕ) → k < n → IsBelow G (run G.program k s))
    → Comes G.machine Anything (least_spent G.program n s) (most_spent G.program n s) (Go r (address G s.frame.function s.frame.at) b s.input s.trace) (Matches G (run G.program n s))

-- Steps without items are no more in a row than a function has instructions: a run that goes on for n steps lets the machine go on too.
abbrev pub slack : Program → ℕ
slack p = places_of p.functions + 1

abbrev pub Progresses : Type 0
Progresses = (p : Program) (n : ℕ) (s t : State) → run p n s ≡ running t → n < slack p * (least_spent p n s + 1)

-- ---- a function that is called from outside (RISC-V ELF psABI, "Integer Calling Convention")

-- The state at a call: arguments in a0 to a7, the further ones from the stack pointer up, gp as the program's start has set it, and the stack pointer, the
-- address to return to, s0 to s11 and the bytes from the stack pointer up as `Returned` has them.
pub record Entered (G : Ground) (f : ℕ) (temporaries arguments : Values) (statics : Bytes) (r : ℕ → ℕ) (at : ℕ) (b : ℕ → ℕ) : Type 0 where
  pub at_is : at ≡ G.env f
  pub sp_is : r 2 ≡ G.sp
  pub gp_is : r 3 ≡ gp_of G
  pub aligned : G.sp % 16 ≡ 0
  pub ra_is : r 1 ≡ G.ra
  pub file_is : (j : ℕ) → file_of r j ≡ G.file j
  pub small : Small (file_of r)
  pub bytes_are : (k : ℕ) → G.sp ≤ k → b k ≡ G.bytes k
  pub bytes : (k : ℕ) → b k < 2 ^ 8
  pub registers : (k : ℕ) (v : Value) → temporaries k ≡ Some v → (k < 8) × (shown G v < 2 ^ 32) × (r (10 + k) ≡ shown G v)
  pub further : (k : ℕ) (v : Value) → arguments k ≡ Some v → (shown G v < 2 ^ 32) × (G.sp + 4 * (k - 8) + 4 ≤ 2 ^ 31) × (word_at b (G.sp + 4 * (k - 8)) ≡ shown G v)
  pub globals : Holds statics G.data_at 0 (length G.program.statics) b
  pub unwatched : 2 ^ 32 ≤ G.watch_sp

-- its flat state: no call waits
abbrev pub outermost : ℕ → Values → Values → Bytes → List ℕ → List Event → State
outermost f temporaries arguments statics input trace = record {
  frame = record { function = f; at = 0; cells = unset; area = unset };
  temporaries = temporaries;
  arguments = arguments;
  waiting = [];
  statics = statics;
  input = input;
  trace = trace;
}

abbrev pub EntriesFollow : Type 0
EntriesFollow =
    (G : Ground) (f : ℕ) (temporaries arguments : Values) (statics : Bytes) (input : List ℕ) (trace : List Event) (r : ℕ → ℕ) (at : ℕ) (b : ℕ → ℕ) → Ready G → f < length G.program.functions
    → Entered G f temporaries arguments statics r at b → HasRoom G (running (outermost f temporaries arguments statics input trace))
    → Comes G.machine Anything 1 (opening_cost (function_at G.program f)) (Go r at b input trace) (Matches G (running (outermost f temporaries arguments statics input trace)))

-- Where its run ends, the machine is at its return address, with the stack pointer, s0 to s11 and the bytes above as at its entry, and with its result in a0;
-- or the program has exited.
abbrev pub ConventionKept : Type 0
ConventionKept =
    (G : Ground) (f : ℕ) (temporaries arguments : Values) (statics : Bytes) (input : List ℕ) (trace : List Event) (r : ℕ → ℕ) (at : ℕ) (b : ℕ → ℕ) → Ready G → f < length G.program.functions
    → Entered G f temporaries arguments statics r at b → AreBytes input
    → (n status : ℕ) (left : List ℕ) (later : List Event) → run G.program n (outermost f temporaries arguments statics input trace) ≡ ended status left later
    → ((k : ℕ) → k ≤ n → HasRoom G (run G.program k (outermost f temporaries arguments statics input trace)))
    → Comes G.machine Anything 1 (opening_cost (function_at G.program f) + most_spent G.program n (outermost f temporaries arguments statics input trace)) (Go r at b input trace) (Matches G (ended status left later))

-- ---- each call within a run

-- the run is within a call that s makes: more frames are on the stack than those of s
abbrev pub IsWithin : Program → State → Progress → Type 0
IsWithin p s (running t) = bytes_of p (s.frame ∷ s.waiting) < bytes_of p (t.frame ∷ t.waiting)
IsWithin p s (ended status input trace) = Unit {0}
IsWithin p s stuck = Unit {0}

-- the call that t ends has been left for there: the stack pointer and s0 to s11 are as in r, the result is in a0, and all is done that t has done
abbrev pub IsBack : Ground → (r : ℕ → ℕ) → State → ℕ → Light → Type 0
IsBack G r t to (Go r2 at b i h) =
    (at ≡ to) × (r2 2 ≡ r 2) × ((j : ℕ) → file_of r2 j ≡ file_of r j) × ((v : Value) → t.temporaries 0 ≡ Some v → r2 10 ≡ shown G v) × (i ≡ t.input) × (h ≡ t.trace)
IsBack G r t to (Done x h) = ⊥
IsBack G r t to (Fell h) = ⊥

-- From a call, however deep, to the return that ends it: n steps within it lead to a Return over the frames that the call found. The machine is then after the
-- call, with the stack pointer and s0 to s11 as they were, and with the result in a0.
abbrev pub EachCallKeeps : Type 0
EachCallKeeps =
    (G : Ground) (s t : State) (f n : ℕ) (r b : ℕ → ℕ) → Ready G → Matched G s r (address G s.frame.function s.frame.at) b → AreBytes s.input
    → next_of G.program s ≡ Some (instruction.Call f) → run G.program n (entered s f) ≡ running t
    → next_of G.program t ≡ Some instruction.Return → bytes_of G.program t.waiting ≡ bytes_of G.program (s.frame ∷ s.waiting)
    → ((k : ℕ) → k ≤ n → HasRoom G (run G.program k (entered s f))) → ((k : ℕ) → k ≤ n → IsWithin G.program s (run G.program k (entered s f)))
    → Comes G.machine Anything 1 (step_cost G.program (function_at G.program s.frame.function) (instruction.Call f) + most_spent G.program n (entered s f) + step_cost G.program (function_at G.program t.frame.function) instruction.Return) (Go r (address G s.frame.function s.frame.at) b s.input s.trace)
    (IsBack G r t (address G s.frame.function (s.frame.at + 1)))

-- ---- whole programs

-- main is called with the stack pointer at the stack's end, and returns to the place after its call; no waiting call is singled out
abbrev pub ground_at : Program → Fixed → (env : ℕ → ℕ) → (floor data_at base : ℕ) → (r b : ℕ → ℕ) → Ground
ground_at p F env floor data_at base r b = record {
  program = p;
  machine = F;
  env = env;
  floor = floor;
  data_at = data_at;
  sp = stack_end;
  ra = base + 24;
  file = file_of r;
  bytes = b;
  watch_sp = 2 ^ 32;
  watch_ra = 0;
  watch_file = λ j. 0;
}

-- A sound program's items are placed from base up to e, below 2^31; the stack, from floor on, and the data may be read and written, and are disjoint; the
-- statics are in memory with their initial values.
pub record Laid (p : Program) (F : Fixed) (env : ℕ → ℕ) (floor data_at base e : ℕ) (r b : ℕ → ℕ) : Type 0 where
  pub sound : IsSoundProgram p
  pub stands : Stands F.text env data_at (program_items p) base e
  pub aligned : base % 4 ≡ 0
  pub low : e < 2 ^ 31
  pub stack_read : (a : ℕ) → floor ≤ a → a < 2 ^ 31 → F.can_read a ≡ true
  pub stack_written : (a : ℕ) → floor ≤ a → a < 2 ^ 31 → F.can_write a ≡ true
  pub data_read : (a : ℕ) → data_at ≤ a → a < data_at + length p.statics → F.can_read a ≡ true
  pub data_written : (a : ℕ) → data_at ≤ a → a < data_at + length p.statics → F.can_write a ≡ true
  pub data_aligned : data_at % 4 ≡ 0
  pub data_below : data_at + length p.statics ≤ floor
  pub floor_below : floor ≤ 2 ^ 31
  pub small : Small (file_of r)
  pub bytes : (k : ℕ) → b k < 2 ^ 8
  pub statics : Holds (slice_get p.statics) data_at 0 (length p.statics) b

-- each instruction's items and each function's entry are at their labels
abbrev pub LaidIsReady : Type 0
LaidIsReady = (p : Program) (F : Fixed) (env : ℕ → ℕ) (floor data_at base e : ℕ) (r b : ℕ → ℕ) → Laid p F env floor data_at base e r b → Ready (ground_at p F env floor data_at base r b)

-- from its entry the machine reaches a match of the flat program's beginning
abbrev pub BeginsFollow : Type 0
BeginsFollow =
    (p : Program) (F : Fixed) (env : ℕ → ℕ) (floor data_at base e : ℕ) (r b : ℕ → ℕ) (input : List ℕ) → Laid p F env floor data_at base e r b → HasRoom (ground_at p F env floor data_at base r b) (running (start p input))
    → Comes F Anything 1 (most_start p) (Go r base b input []) (Matches (ground_at p F env floor data_at base r b) (running (start p input)))

-- a flat program that ends in n steps: the machine ends with the same status, having done the same
abbrev pub EndsFollow : Type 0
EndsFollow =
    (p : Program) (F : Fixed) (env : ℕ → ℕ) (floor data_at base e : ℕ) (r b : ℕ → ℕ) (input : List ℕ) → Laid p F env floor data_at base e r b → AreBytes input
    → (n status : ℕ) (left : List ℕ) (trace : List Event) → run p n (start p input) ≡ ended status left trace
    → ((k : ℕ) → k ≤ n → HasRoom (ground_at p F env floor data_at base r b) (run p k (start p input)))
    → Comes F Anything 1 (most_start p + most_spent p n (start p input) + 2) (Go r base b input []) (λ m. m ≡ Done status trace)

-- ---- on the machine of the table, where no byte may be both executed and written, and text lies below 2^31

-- the machine is where the flat program is: at the items of its next instruction, having done the same and with the same input left; the frames of
-- the calls that are active lie between the stack pointer and the stack's end, and the temporaries that are words are in a0 to a7 and from the
-- stack pointer up, so that of a call they are its arguments (RISC-V ELF psABI, "Integer Calling Convention")
pub record StandsWith (p : Program) (env : ℕ → ℕ) (s : State) (w : World) : Type 0 where
  pub pc : w.machine.pc ≡ env (first_of p s.frame.function + s.frame.at)
  pub sp : register w.machine 2 + bytes_of p (s.frame ∷ s.waiting) ≡ stack_end
  pub aligned : register w.machine 2 % 16 ≡ 0
  pub registers : (k x : ℕ) → k < 8 → s.temporaries k ≡ Some (word x) → register w.machine (10 + k) ≡ x
  pub stack : (k x : ℕ) → 8 ≤ k → s.temporaries k ≡ Some (word x) → word_at w.machine.space.byte (register w.machine 2 + 4 * (k - 8)) ≡ x
  pub trace : w.trace ≡ s.trace
  pub input : w.input ≡ s.input

-- where the flat program goes on: the machine does too, after a count of instructions that grows with the steps
abbrev pub MachineGoesOn : Type 0
MachineGoesOn =
    (P : Permits) → ((a : ℕ) → P.can_execute a ≡ true → a < 2 ^ 31) → ((a : ℕ) → P.can_execute a ≡ true → P.can_write a ≡ false)
    → (p : Program) (env : ℕ → ℕ) (floor data_at base e : ℕ) (r b : ℕ → ℕ) (list input : List ℕ) → Laid p (fixed P b) env floor data_at base e r b → Registers list r → AreBytes input
    → (n : ℕ) (s : State) → run p n (start p input) ≡ running s
    → ((k : ℕ) → k ≤ n → HasRoom (ground_at p (fixed P b) env floor data_at base r b) (run p k (start p input)))
    → (k : ℕ) × (w : World) × (n < slack p * k) × (k ≤ most_start p + most_spent p n (start p input)) × (rvrun k (world P list base b input []) ≡ Running w) × StandsWith p env s w

-- where it ends
abbrev pub MachineEnds : Type 0
MachineEnds =
    (P : Permits) → ((a : ℕ) → P.can_execute a ≡ true → a < 2 ^ 31) → ((a : ℕ) → P.can_execute a ≡ true → P.can_write a ≡ false)
    → (p : Program) (env : ℕ → ℕ) (floor data_at base e : ℕ) (r b : ℕ → ℕ) (list input : List ℕ) → Laid p (fixed P b) env floor data_at base e r b → Registers list r → AreBytes input
    → (n status : ℕ) (left : List ℕ) (trace : List Event) → run p n (start p input) ≡ ended status left trace
    → ((k : ℕ) → k ≤ n → HasRoom (ground_at p (fixed P b) env floor data_at base r b) (run p k (start p input)))
    → (k : ℕ) × (w : World) × (k ≤ most_start p + most_spent p n (start p input) + 2) × (rvrun k (world P list base b input []) ≡ Ended status w) × (w.trace ≡ trace) × (w.input ≡ left)

-- After a call that t ends, which began in v: the machine is there, the stack pointer and s0 to s11 are the same, the result, where it is a word, is in a0, and
-- the trace is that of t.
pub record BackFrom (t : State) (to : ℕ) (v w : World) : Type 0 where
  pub pc : w.machine.pc ≡ to
  pub sp : register w.machine 2 ≡ register v.machine 2
  pub file : (j : ℕ) → j < 12 → register w.machine (kept j) ≡ register v.machine (kept j)
  pub result : (x : ℕ) → t.temporaries 0 ≡ Some (word x) → register w.machine 10 ≡ x
  pub trace : w.trace ≡ t.trace
  pub input : w.input ≡ t.input

-- At each call that the flat program reaches, and after the return that ends it, as `EachCallKeeps` states it.
abbrev pub MachineCallsKeep : Type 0
MachineCallsKeep =
    (P : Permits) → ((a : ℕ) → P.can_execute a ≡ true → a < 2 ^ 31) → ((a : ℕ) → P.can_execute a ≡ true → P.can_write a ≡ false)
    → (p : Program) (env : ℕ → ℕ) (floor data_at base e : ℕ) (r b : ℕ → ℕ) (list input : List ℕ) → Laid p (fixed P b) env floor data_at base e r b → Registers list r → AreBytes input
    → (n m f : ℕ) (s t : State) → run p n (start p input) ≡ running s → next_of p s ≡ Some (instruction.Call f) → run p m (entered s f) ≡ running t
    → next_of p t ≡ Some instruction.Return → bytes_of p t.waiting ≡ bytes_of p (s.frame ∷ s.waiting)
    → ((k : ℕ) → k ≤ n → HasRoom (ground_at p (fixed P b) env floor data_at base r b) (run p k (start p input)))
    → ((k : ℕ) → k ≤ m → HasRoom (ground_at p (fixed P b) env floor data_at base r b) (run p k (entered s f))) → ((k : ℕ) → k ≤ m → IsWithin p s (run p k (entered s f)))
    → (k j : ℕ) × (v w : World) × (n < slack p * k) × (k ≤ most_start p + most_spent p n (start p input)) × (0 < j) × (j ≤ step_cost p (function_at p s.frame.function) (instruction.Call f) + most_spent p m (entered s f) + step_cost p (function_at p t.frame.function) instruction.Return)
    × (rvrun k (world P list base b input []) ≡ Running v) × StandsWith p env s v
    × (rvrun (k + j) (world P list base b input []) ≡ Running w) × BackFrom t (env (first_of p s.frame.function + (s.frame.at + 1))) v w
