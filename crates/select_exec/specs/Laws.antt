-- The laws of running emitted code.
use Rattle.std.specs.Prelude.{◌≡◌, ◌≢◌, ◌≤◌, ◌<◌, ℕ, ◌+◌, ◌%◌, ◌^◌, true, false, List, ◌++◌, Option}
use Rattle.rv32.specs.declared.instr.Instr.{Instr}
use Rattle.rv32.specs.declared.state.Cause.{Cause}
use Rattle.csem_events.specs.Events.{Event}
use Rattle.sim.specs.Runs.{World, Progress, Running, Ended, Trapped, rvrun}
use Rattle.asm.specs.declared.item.Item.{Item}
use Rattle.asm.specs.Placed.{Stands}
use Rattle.select_exec.specs.Light.{Fixed, Light, light_run, with_reg}
use Rattle.select_exec.specs.Whole.{Permits}
use Rattle.select_exec.specs.Worlds.{RunFollows}

-- where no byte may be both executed and written, and text lies low, the table's machine simulates the light machine
abbrev pub TextStays : Type 0
TextStays = (P : Permits) → ((a : ℕ) → P.can_execute a ≡ true → a < 2 ^ 31) → ((a : ℕ) → P.can_execute a ≡ true → P.can_write a ≡ false) → RunFollows P

-- two texts have the same instructions at the words from a up to e
abbrev pub AgreeOn : (T U : ℕ → Option Instr) → (a e : ℕ) → Type 0
AgreeOn T U a e = (x : ℕ) → a ≤ x → x + 4 ≤ e → x % 4 ≡ 0 → T x ≡ U x

-- items placed in one text are placed in any other that has the same words there
abbrev pub StandsWherever : Type 0
StandsWherever = (T U : ℕ → Option Instr) (env : ℕ → ℕ) (seg : ℕ) (items : List Item) (a e : ℕ) → a % 4 ≡ 0 → AgreeOn T U a e → Stands T env seg items a e → Stands U env seg items a e

-- items that are placed one after the other: each part is placed, the second where the first ends
abbrev pub StandsInParts : Type 0
StandsInParts = (T : ℕ → Option Instr) (env : ℕ → ℕ) (seg : ℕ) (xs ys : List Item) (a e : ℕ) → Stands T env seg (xs ++ ys) a e → (m : ℕ) × Stands T env seg xs a m × Stands T env seg ys m e

-- ---- the light machine

-- a + b steps are b steps after a steps
abbrev pub StepsAdd : Type 0
StepsAdd = (F : Fixed) (a b : ℕ) (m : Light) → light_run F (a + b) m ≡ light_run F b (light_run F a m)

-- a write to a register changes no other register
abbrev pub OthersStay : Type 0
OthersStay = (r : ℕ → ℕ) (k w j : ℕ) → j ≢ k → with_reg r k w j ≡ r j

-- ---- runs by their counts of steps

-- the events of a run so far, the newest first
abbrev pub trace_of : Progress → List Event
trace_of (Running w) = w.trace
trace_of (Ended s w) = w.trace
trace_of (Trapped c w) = w.trace

-- the events since then are in front of the earlier ones
abbrev pub IsEndOf : List Event → List Event → Type 0
IsEndOf earlier later = (since : List Event) × (later ≡ since ++ earlier)

-- a run that goes on keeps its past events; one that has ended or trapped stays so
abbrev pub RunsKeep : Type 0
RunsKeep =
    (k j : ℕ) (w : World)
    → IsEndOf (trace_of (rvrun k w)) (trace_of (rvrun (k + j) w))
    × ((s : ℕ) (v : World) → rvrun k w ≡ Ended s v → rvrun (k + j) w ≡ Ended s v)
    × ((c : Cause) (v : World) → rvrun k w ≡ Trapped c v → rvrun (k + j) w ≡ Trapped c v)
