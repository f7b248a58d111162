-- The state of the machine of the table in the middle of a run, in terms of the symbolic machine, so that another may continue from there.
use Rattle.std.specs.Prelude.{◌≡◌, ◌≤◌, ◌<◌, ℕ, ◌+◌, ◌^◌, List, [], ◌∷◌, true, false}
use Rattle.memory_map.specs.MemoryMap.{stack_end}
use Rattle.rv32.specs.Step.{register}
use Rattle.csem_events.specs.Events.{Event}
use Rattle.frames_code.specs.Code.{Program, frame_bytes}
use Rattle.frames_code.specs.Run.{State, Progress, running, run, step, start, function_at, bytes_of}
use Rattle.sim.specs.Runs as machine
use Rattle.sim.specs.Runs.{World, Running, rvrun}
use Rattle.select_exec.specs.Whole.{Permits, fixed}
use Rattle.select_exec.specs.Worlds.{Registers, world}
use Rattle.select_correct.specs.Laws.{AreBytes}
use Rattle.select_correct.specs.Matches.{Ground, Ready, Matched, HasRoom, IsBelow, address}
use Rattle.select_correct.specs.Runs.{Laid, StandsWith, ground_at}

-- the run has reached a world of registers r and memory b, which match the state
pub record StandsAt (P : Permits) (G : Ground) (s : State) (x : machine.Progress) : Type 0 where
  pub list : List ℕ
  pub r : ℕ → ℕ
  pub b : ℕ → ℕ
  pub is : x ≡ Running (world P list (address G s.frame.function s.frame.at) b s.input s.trace)
  pub shows : Registers list r
  pub small : address G s.frame.function s.frame.at < 2 ^ 32
  pub matched : Matched G s r (address G s.frame.function s.frame.at) b
  pub sum : matched.sp + bytes_of G.program (s.frame ∷ s.waiting) ≡ G.sp
  pub stands : StandsWith G.program G.env s (world P list (address G s.frame.function s.frame.at) b s.input s.trace)
  pub input : AreBytes s.input

-- so it does where the flat program goes on
abbrev pub MachineStands : Type 0
MachineStands =
    (P : Permits) → ((a : ℕ) → P.can_execute a ≡ true → a < 2 ^ 31) → ((a : ℕ) → P.can_execute a ≡ true → P.can_write a ≡ false)
    → (p : Program) (env : ℕ → ℕ) (floor data_at base e : ℕ) (r b : ℕ → ℕ) (list input : List ℕ) → Laid p (fixed P b) env floor data_at base e r b → Registers list r → AreBytes input
    → (n : ℕ) (s : State) → run p n (start p input) ≡ running s
    → ((k : ℕ) → k ≤ n → HasRoom (ground_at p (fixed P b) env floor data_at base r b) (run p k (start p input)))
    → (k : ℕ) × StandsAt P (ground_at p (fixed P b) env floor data_at base r b) s (rvrun k (world P list base b input []))

-- From a world of registers r and memory b that match a state, one step of flat code: the machine reaches a match of the state after it. Permissions and floor
-- may differ from those that the run began with.
abbrev pub StepStands : Type 0
StepStands =
    (P : Permits) → ((a : ℕ) → P.can_execute a ≡ true → a < 2 ^ 31) → ((a : ℕ) → P.can_execute a ≡ true → P.can_write a ≡ false)
    → (p : Program) (env : ℕ → ℕ) (floor data_at base : ℕ) (r0 b0 b : ℕ → ℕ) → Ready (ground_at p (fixed P b) env floor data_at base r0 b0)
    → (s t : State) (list : List ℕ) (r : ℕ → ℕ) → Registers list r → address (ground_at p (fixed P b) env floor data_at base r0 b0) s.frame.function s.frame.at < 2 ^ 32
    → Matched (ground_at p (fixed P b) env floor data_at base r0 b0) s r (address (ground_at p (fixed P b) env floor data_at base r0 b0) s.frame.function s.frame.at) b
    → AreBytes s.input → step p s ≡ running t → HasRoom (ground_at p (fixed P b) env floor data_at base r0 b0) (running t)
    → (j : ℕ) × (w : World) × (rvrun j (world P list (address (ground_at p (fixed P b) env floor data_at base r0 b0) s.frame.function s.frame.at) b s.input s.trace) ≡ Running w) × StandsWith p env t w

-- ---- parts of a match

-- the active frames fill the stack from the stack pointer up to where the outermost call began
abbrev pub FramesFill : Type 0
FramesFill = (G : Ground) → Ready G → (s : State) (r : ℕ → ℕ) (at : ℕ) (b : ℕ → ℕ) (m : Matched G s r at b) → m.sp + frame_bytes (function_at G.program s.frame.function) + bytes_of G.program s.waiting ≡ G.sp

-- x1 to x31 of a world are its registers
abbrev pub RegistersShown : Type 0
RegistersShown = (P : Permits) (list : List ℕ) (r : ℕ → ℕ) (pc : ℕ) (b : ℕ → ℕ) (i : List ℕ) (h : List Event) → Registers list r → (k : ℕ) → 0 < k → k < 32 → register (world P list pc b i h).machine k ≡ r k

-- a world of registers and memory that match a state is where the state is
abbrev pub MatchedStands : Type 0
MatchedStands =
    (P : Permits) (G : Ground) (s : State) (list : List ℕ) (r : ℕ → ℕ) (at : ℕ) (b : ℕ → ℕ) (i : List ℕ) (h : List Event) → Ready G → G.sp ≡ stack_end → Matched G s r at b → i ≡ s.input → h ≡ s.trace → Registers list r
    → StandsWith G.program G.env s (world P list at b i h)

-- where no call is singled out, no frame is above it
abbrev pub NoneIsAbove : Type 0
NoneIsAbove = (G : Ground) → 2 ^ 32 ≤ G.watch_sp → G.sp ≤ 2 ^ 31 → (x : Progress) → IsBelow G x

-- the input that a step leaves is bytes, where what it found was
abbrev pub InputStaysBytes : Type 0
InputStaysBytes = (p : Program) (s t : State) → step p s ≡ running t → AreBytes s.input → AreBytes t.input
