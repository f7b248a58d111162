-- What a built file does if its calls need more stack than it has: it does what the program does until an access below the stack traps.
use Rattle.std.specs.Prelude.{◌≡◌, ◌⊎◌, ℕ, ◌+◌, List, length, reverse}
use Rattle.rv32.specs.declared.state.Cause.{Cause}
use Rattle.rv32.specs.declared.state.Cause.TheVariants.{LoadFault, StoreFault}
use Rattle.memory_map.specs.MemoryMap.{data_start}
use Rattle.loader.specs.File.{Image}
use Rattle.elf_out.specs.Layout.{Parts}
use Rattle.sim.specs.Runs as sim
use Rattle.sim.specs.Runs.{World, Progress, Trapped}
use Rattle.typing_spec.specs.Program.{Program}
use Rattle.csem.specs.Machine.{Ended}
use Rattle.csem.specs.Meaning.{answer}
use Rattle.cc_backend.specs.Runs.{IsInput}
use Rattle.cc_backend.specs.Made.{IsFileOf}
use Rattle.cc_laws.specs.Laws.{IsDefined, HasImage, run_of, done_in, IsBeginning, IsInside, space_from}

-- for every number of ticks, the program meets no undefined behaviour on this input; nothing is said of its stack
abbrev pub IsAlwaysDefined : Program → (input : List ℕ) → Type 0
IsAlwaysDefined p input = (n : ℕ) → IsDefined (answer n p input).ending

-- the address after the data
abbrev pub data_end : Parts → ℕ
data_end parts = data_start (length parts.text) + length parts.statics

-- A load or a store that is refused, though it would not be if all between the data and the end of the stack were readable and writable: it accesses a byte
-- below the stack and above the data.
pub record IsOverflow (parts : Parts) (image : Image) (c : Cause) (w : World) : Type 0 where
  pub refused : (c ≡ LoadFault) ⊎ (c ≡ StoreFault)
  pub below : IsInside (space_from parts (data_end parts) image.space) w.machine

abbrev pub HasTrapped : Progress → Type 0
HasTrapped x = (c : Cause) × (w : World) × (x ≡ Trapped c w)

-- What the file has done after any k instructions is a prefix of what the abstract machine does. If it has ended, the abstract machine ends in the same way. It traps only at an
-- overflow of the stack, and if it never traps it does all that the abstract machine does.
pub record GoesUpToOverflow (parts : Parts) (p : Program) (image : Image) (input : List ℕ) : Type 0 where
  pub does_no_more : (k : ℕ) → (n : ℕ) × IsBeginning (done_in (run_of image input k)) (answer n p input).trace
  pub ends_only_so : (k status : ℕ) (w : World) → run_of image input k ≡ sim.Ended status w
      → (n : ℕ) × ((answer n p input).ending ≡ Ended status) × ((answer n p input).trace ≡ reverse w.trace)
  pub traps_only_so : (k : ℕ) (c : Cause) (w : World) → run_of image input k ≡ Trapped c w → IsOverflow parts image c w
  pub does_all : (n : ℕ) → (k : ℕ) × ((done_in (run_of image input k) ≡ (answer n p input).trace) ⊎ HasTrapped (run_of image input k))

-- this holds of each file made of a program, however small its stack
abbrev pub FilesGoUpToOverflow : Type 0
FilesGoUpToOverflow =
    (stack : ℕ) (p : Program) (file frames : List ℕ) (made : IsFileOf stack p file frames)
    → HasImage file (λ image. (input : List ℕ) → IsInput input → IsAlwaysDefined p input → GoesUpToOverflow made.parts p image input)
