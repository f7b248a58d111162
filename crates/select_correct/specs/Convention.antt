-- The calling convention of the machine's code (RISC-V ELF psABI, "Integer Calling Convention" and "Integer Register Convention"): the state of the machine at
-- the entry of a function, while the function runs, and where it has returned.
use Rattle.std.specs.Prelude.{◌≡◌, ◌≤◌, ◌<◌, ℕ, zero, suc, ◌+◌, ◌-◌, ◌*◌, ◌%◌, ◌^◌, true, false, List, [], ◌∷◌, Some}
use Rattle.memory_map.specs.MemoryMap.{stack_end}
use Rattle.rv32.specs.Space.{word_at}
use Rattle.rv32.specs.Step.{register}
use Rattle.frames_code.specs.declared.code.Instruction.TheVariants as instruction
use Rattle.frames_code.specs.Code.{Program, frame_bytes}
use Rattle.frames_code.specs.Costs.{next_of}
use Rattle.frames_code.specs.Run.{Value, word, reference, State, Progress, running, ended, stuck, active, entered, function_at, bytes_of, run, start}
use Rattle.sim.specs.Runs as sim
use Rattle.sim.specs.Runs.{World, Running, rvrun}
use Rattle.select_exec.specs.Whole.{Permits, fixed}
use Rattle.select_exec.specs.Worlds.{Registers, world}
use Rattle.select.specs.Selected.{kept, gp_offset}
use Rattle.select_correct.specs.Matches.{Ground, HasRoom, first_of}
use Rattle.select_correct.specs.Laws.{AreBytes}
use Rattle.select_correct.specs.Runs.{Laid, StandsWith, ground_at}

-- how a value is passed: a word as it is, an array as the address of the bytes that its reference names, in the data or in a frame on the stack
abbrev pub passed : (data_at : ℕ) → Value → ℕ
passed data_at (word w) = w
passed data_at (reference zero o) = (data_at + o) % 2 ^ 32
passed data_at (reference (suc l) o) = (stack_end - suc l + o) % 2 ^ 32

-- A function has been entered in the state c: the machine is at its first instruction, the address to return to is in ra (x1), the stack pointer (x2) is a
-- multiple of 16, and gp (x3) is where the program's start has put it. The first eight arguments are in a0 to a7 (x10 to x17), and the further ones on the stack, a word each, from the stack pointer up.
pub record AtEntry (data_at entry back : ℕ) (c : State) (v : World) : Type 0 where
  pub pc : v.machine.pc ≡ entry
  pub ra : register v.machine 1 ≡ back
  pub aligned : register v.machine 2 % 16 ≡ 0
  pub gp : register v.machine 3 ≡ data_at + gp_offset
  pub registers : (k : ℕ) (x : Value) → c.temporaries k ≡ Some x → (k < 8) × (register v.machine (10 + k) ≡ passed data_at x)
  pub stack : (k : ℕ) (x : Value) → c.arguments (8 + k) ≡ Some x → word_at v.machine.space.byte (register v.machine 2 + 4 * k) ≡ passed data_at x
  pub trace : v.trace ≡ c.trace
  pub input : v.input ≡ c.input

-- more frames are on the stack than those of the calls that wait in c
abbrev pub IsInside : Program → State → Progress → Type 0
IsInside p c (running t) = bytes_of p c.waiting < bytes_of p (t.frame ∷ t.waiting)
IsInside p c (ended status input trace) = Unit {0}
IsInside p c stuck = Unit {0}

-- m steps after c the run is in t, in the function that was entered: it has not returned on the way, and the calls that are active are those at the entry
pub record IsInCallee (p : Program) (c : State) (m : ℕ) (t : State) : Type 0 where
  pub runs : run p m c ≡ running t
  pub inside : (k : ℕ) → k ≤ m → IsInside p c (run p k c)
  pub own : active t ≡ active c

-- entered at v, the function has this number of bytes of the stack at u: its stack pointer is lower by that number, and a multiple of 16
pub record HasFrame (bytes : ℕ) (v u : World) : Type 0 where
  pub sp : register u.machine 2 + bytes ≡ register v.machine 2
  pub aligned : register u.machine 2 % 16 ≡ 0

-- Entered at v, the function has returned at w, from state t: the machine is at the address that ra had, the stack pointer and s0 to s11 are as they were,
-- and the result is in a0.
pub record AtReturn (data_at : ℕ) (t : State) (v w : World) : Type 0 where
  pub pc : w.machine.pc ≡ register v.machine 1
  pub sp : register w.machine 2 ≡ register v.machine 2
  pub saved : (j : ℕ) → j < 12 → register w.machine (kept j) ≡ register v.machine (kept j)
  pub result : (x : Value) → t.temporaries 0 ≡ Some x → register w.machine 10 ≡ passed data_at x
  pub trace : w.trace ≡ t.trace
  pub input : w.input ≡ t.input

-- The machine, which is at `at k` after k instructions, enters the function; wherever the function itself then runs, as far as the stack serves, its frame
-- is below; and from wherever it returns, it returns so. It is one entry from which all this holds. The stack serves m steps from there where it fits each state up to there.
pub record KeepsConvention (p : Program) (env : ℕ → ℕ) (data_at : ℕ) (at : ℕ → sim.Progress) (entry back : ℕ) (c : State) (Serves : ℕ → Type 0) : Type 0 where
  pub k : ℕ
  pub v : World
  pub runs : at k ≡ Running v
  pub enters : AtEntry data_at entry back c v
  pub has_frame : (m : ℕ) (t : State) → Serves m → IsInCallee p c m t
      → (j : ℕ) × (u : World) × (at (k + j) ≡ Running u) × StandsWith p env t u × HasFrame (frame_bytes (function_at p c.frame.function)) v u
  pub leaves : (m : ℕ) (t : State) → Serves m → IsInCallee p c m t → next_of p t ≡ Some instruction.Return
      → (j : ℕ) × (w : World) × (at (k + j) ≡ Running w) × AtReturn data_at t v w

-- after n steps of the program's run function f is about to be called
pub record ComesToCall (p : Program) (input : List ℕ) (n f : ℕ) (s : State) : Type 0 where
  pub runs : run p n (start p input) ≡ running s
  pub next : next_of p s ≡ Some (instruction.Call f)

-- a call returns to the item after it
abbrev pub behind_call : Program → (env : ℕ → ℕ) → State → ℕ
behind_call p env s = env (first_of p s.frame.function + (s.frame.at + 1))

-- all frames of m steps from c fit the stack
abbrev pub HasRoomFor : Ground → (c : State) → ℕ → Type 0
HasRoomFor G c m = (j : ℕ) → j ≤ m → HasRoom G (run G.program j c)

-- So it is of each call of a program's run that the stack serves up to the call, and of main, which is called from the program's entry.
abbrev pub CallsKeepConvention : Type 0
CallsKeepConvention =
    (P : Permits) → ((a : ℕ) → P.can_execute a ≡ true → a < 2 ^ 31) → ((a : ℕ) → P.can_execute a ≡ true → P.can_write a ≡ false)
    → (p : Program) (env : ℕ → ℕ) (floor data_at base e : ℕ) (r b : ℕ → ℕ) (list input : List ℕ)
    → Laid p (fixed P b) env floor data_at base e r b → Registers list r → AreBytes input
    → (n f : ℕ) (s : State) → ComesToCall p input n f s → HasRoomFor (ground_at p (fixed P b) env floor data_at base r b) (start p input) (suc n)
    → KeepsConvention p env data_at (λ k. rvrun k (world P list base b input [])) (env f) (behind_call p env s) (entered s f) (HasRoomFor (ground_at p (fixed P b) env floor data_at base r b) (entered s f))

abbrev pub MainKeepsConvention : Type 0
MainKeepsConvention =
    (P : Permits) → ((a : ℕ) → P.can_execute a ≡ true → a < 2 ^ 31) → ((a : ℕ) → P.can_execute a ≡ true → P.can_write a ≡ false)
    → (p : Program) (env : ℕ → ℕ) (floor data_at base e : ℕ) (r b : ℕ → ℕ) (list input : List ℕ)
    → Laid p (fixed P b) env floor data_at base e r b → Registers list r → AreBytes input
    → HasRoom (ground_at p (fixed P b) env floor data_at base r b) (running (start p input))
    → KeepsConvention p env data_at (λ k. rvrun k (world P list base b input [])) (env p.main) (base + 24) (start p input) (HasRoomFor (ground_at p (fixed P b) env floor data_at base r b) (start p input))
