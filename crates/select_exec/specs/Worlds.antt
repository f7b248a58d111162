-- A light machine as a world of the table's machine.
use Rattle.std.specs.Prelude.{◌≡◌, ◌<◌, ℕ, ◌^◌, ◌==◌, if◌then◌else◌, List, length, slice_index}
use Rattle.csem_events.specs.Events.{Event}
use Rattle.sim.specs.Runs.{World, Progress, Running, Ended, rvrun}
use Rattle.select_exec.specs.Light.{Light, Go, Done, Fell, reg, light_run}
use Rattle.select_exec.specs.Whole.{Permits, fixed}

-- the list holds the registers x0 to x31
pub record Registers (list : List ℕ) (r : ℕ → ℕ) : Type 0 where
  pub count : length list ≡ 32
  pub each : (k : ℕ) → k < 32 → (if k == 0 then 0 else slice_index list k) ≡ reg r k

abbrev pub world : Permits → List ℕ → ℕ → (ℕ → ℕ) → List ℕ → List Event → World
world P list pc b i h = record {
  machine = record {
    registers = list;
    pc = pc;
    space = record { byte = b; can_read = P.can_read; can_write = P.can_write; can_execute = P.can_execute };
  };
  input = i;
  trace = h;
}

-- the run continues at such a world
pub record Goes (P : Permits) (r : ℕ → ℕ) (pc : ℕ) (b : ℕ → ℕ) (i : List ℕ) (h : List Event) (p : Progress) : Type 0 where
  pub list : List ℕ
  pub is : p ≡ Running (world P list pc b i h)
  pub shows : Registers list r
  pub small : pc < 2 ^ 32

-- the run is where the light machine is; nothing is required once the light machine fell
abbrev pub Follows : Permits → Light → Progress → Type 0
Follows P (Go r pc b i h) p = Goes P r pc b i h p
Follows P (Done s h) p = (v : World) × (p ≡ Ended s v) × (v.trace ≡ h)
Follows P (Fell h) p = Unit {0}

-- after each number of steps the run from a world is where the light machine is that began as that world shows
abbrev pub RunFollows : Permits → Type 0
RunFollows P =
    (list : List ℕ) (r : ℕ → ℕ) (pc : ℕ) (b : ℕ → ℕ) (i : List ℕ) (h : List Event) → Registers list r → pc < 2 ^ 32 → (k : ℕ)
    → Follows P (light_run (fixed P b) k (Go r pc b i h)) (rvrun k (world P list pc b i h))
