-- How a program's file runs: the headline's own words (ISO/IEC 9899:2011 5.1.2.3), apart from how the file is made.
use Rattle.std.specs.Prelude.{◌≡◌, ◌≤◌, ◌<◌, ℕ, ◌+◌, ◌*◌, ◌%◌, ◌^◌, List, Option, Some, None, slice_get, Ok}
use Rattle.srcset.specs.declared.refusal.Pos.{Pos}
use Rattle.ctypes.specs.declared.operators.Undef.{Undef}
use Rattle.rv32.specs.Step.{register}
use Rattle.memory_map.specs.MemoryMap.{stack_end}
use Rattle.loader.specs.File.{Image, file_image}
use Rattle.sim.specs.Runs as sim
use Rattle.sim.specs.Runs.{World, rvrun, start_world}
use Rattle.typing_spec.specs.Program.{Program}
use Rattle.csem.specs.History.{Entry, trace_of, active, weight_in, sum_of, greatest_sum}
use Rattle.csem.specs.Machine.{State, Stops, Ended, Undefined, TicksUsed}
use Rattle.csem.specs.Meaning.{cstep}

-- an input is a list of bytes
abbrev pub IsInput : List ℕ → Type 0
IsInput input = (k c : ℕ) → slice_get input k ≡ Some c → c < 2 ^ 8

-- the bytes of the frame of a function, by its number
abbrev pub bytes_or_none : Option ℕ → ℕ
bytes_or_none None = 0
bytes_or_none (Some n) = n

-- the stack pointer is a multiple of 16, and lies below the stack's end by just the frames of the calls that are active
abbrev pub HasFrames : (frames : List ℕ) → List Entry → World → Type 0
HasFrames frames history w =
    (register w.machine 2 % 16 ≡ 0) × (register w.machine 2 + sum_of (λ g. bytes_or_none (slice_get frames g)) (active history) ≡ stack_end)

-- the machine of the table, from the image on this input, is at such an instruction after at most `most` instructions
abbrev pub Reaches : Image → List ℕ → (most : ℕ) → (ℕ → World → Type 0) → Type 0
Reaches image input most There = (k : ℕ) × (w : World) × (k ≤ most) × There k w

-- its trace is that of the abstract machine, and so is its remaining input
abbrev pub HasDone : State → World → Type 0
HasDone s w = (w.trace ≡ trace_of s.history) × (w.input ≡ s.input)

abbrev pub EndsWith : Image → List ℕ → (status : ℕ) → State → ℕ → World → Type 0
EndsWith image input status s k w = (rvrun k (start_world image input) ≡ sim.Ended status w) × HasDone s w

abbrev pub GoesOnWith : Image → List ℕ → (frames : List ℕ) → State → ℕ → World → Type 0
GoesOnWith image input frames s k w = (rvrun k (start_world image input) ≡ sim.Running w) × HasDone s w × HasFrames frames s.history w

-- The file has an image. For every input of bytes and every n: where the abstract machine ends within n ticks, and the weights of the calls active at
-- one time never summed to more than this stack, the machine ends with the same status, having done the same; where n ticks are used, it goes
-- on, having done the same, its stack pointer below the stack's end by just the frames of the calls that are active. For n ticks it takes at most
-- 60 n + 68 instructions, and at least one for each `slack` ticks, so that an unending run does all that the abstract machine does. Where the abstract machine meets
-- undefined behaviour within n ticks, the machine comes to have done all that was done before, also within the last of these ticks.
pub record RunsAs (stack : ℕ) (p : Program) (frames file : List ℕ) : Type 0 where
  pub image : Image
  pub loads : file_image file ≡ Ok image
  pub ends : (input : List ℕ) → IsInput input → (n status : ℕ) (s : State) → cstep n p input ≡ Stops (Ended status) s → greatest_sum (weight_in p) s.history ≤ stack
      → Reaches image input (60 * n + 68) (EndsWith image input status s)
  pub slack : ℕ
  pub goes_on : (input : List ℕ) → IsInput input → (n : ℕ) (s : State) → cstep n p input ≡ Stops TicksUsed s → greatest_sum (weight_in p) s.history ≤ stack
      → Reaches image input (60 * n + 66) (λ k w. (n < slack * k) × GoesOnWith image input frames s k w)
  pub stops : (input : List ℕ) → IsInput input → (n : ℕ) (act : Undef) (at : Pos) (s : State) → cstep n p input ≡ Stops (Undefined act at) s → greatest_sum (weight_in p) s.history ≤ stack
      → Reaches image input (60 * n + 66) (GoesOnWith image input frames s)
