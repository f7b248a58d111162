-- gp (x3) and tp (x4), which the psABI reserves ("Integer Register Convention"): the start of a file puts gp among the statics, and nothing else writes it; tp is
-- never written.
use Rattle.std.specs.Prelude.{◌≡◌, ◌⊎◌, ℕ, suc, ◌+◌, List}
use Rattle.memory_map.specs.MemoryMap.{text_start}
use Rattle.rv32.specs.Step.{register}
use Rattle.sim.specs.Runs.{World, Running}
use Rattle.typing_spec.specs.Program.{Program}
use Rattle.cc_backend.specs.Made.{IsFileOf}
use Rattle.cc_laws.specs.Laws.{HasImage, run_of}

-- the third and the fourth instruction of the text
abbrev pub SetsGp : ℕ → Type 0
SetsGp pc = (pc ≡ text_start + 8) ⊎ (pc ≡ text_start + 12)

-- after k instructions tp is 0, the initial value of all registers, and another instruction than those two leaves gp as it is
abbrev pub AreReserved : (run : ℕ → World → Type 0) → Type 0
AreReserved run =
    (k : ℕ) (w : World) → run k w → (register w.machine 4 ≡ 0) × ((u : World) → run (suc k) u → (SetsGp w.machine.pc → ⊥) → register u.machine 3 ≡ register w.machine 3)

-- so it is in the run of a file made of a program, on any input, whatever the program does
abbrev pub FilesLeaveReserved : Type 0
FilesLeaveReserved =
    (stack : ℕ) (p : Program) (file frames : List ℕ) → IsFileOf stack p file frames
    → HasImage file (λ image. (input : List ℕ) → AreReserved (λ k w. run_of image input k ≡ Running w))
