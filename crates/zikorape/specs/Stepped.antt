-- A caller's view of a machine at an instruction.
use Rattle.std.specs.Prelude.{◌≡◌, ◌⊎◌, ◌<◌, ◌≤◌, ℕ, ◌+◌, List, [], Some, Ok, length, slice_index}
use Rattle.rv32.specs.Space.{Space}
use Rattle.rv32.specs.Step.{Machine}
use Rattle.srcset.specs.Codes.{number_of}
use Rattle.loader.specs.File.{Image, file_image}
use Rattle.loader.specs.Fault.{code_of}
use Rattle.loader.specs.Loading.{FailsToLoad}
use Rattle.loader.specs.declared.fault.LoadFault.{LoadFault}
use Rattle.io_ports.specs.Memory.{MemoryView, port_of}
use Rattle.sim.specs.declared.machine.Outcome.{Outcome}
use Rattle.sim.specs.declared.machine.Outcome.TheVariants as outcome
use Rattle.sim.specs.Runs.{start_world, rvrun}
use Rattle.sim.specs.Meets.{RunMeets}
use Rattle.zikorape.specs.Got.{Buffer, Got}
use Rattle.zikorape.specs.declared.standing.Standing.{Standing}
use Rattle.machine_kept.specs.Standing.{shown_byte, cause_number, Passes}
use Rattle.machine_kept.specs.declared.stepping.Halt.{Halt}

-- ---- numbers

-- 0 where it continues, 1 where it ended, 2 where it trapped, 3 when out of memory
abbrev pub outcome_number : Outcome → ℕ
outcome_number outcome.Budget = 0
outcome_number (outcome.Ended status) = 1
outcome_number (outcome.Trapped pc cause) = 2
outcome_number (outcome.Port fault) = 3

-- the status with which it ended, or why it trapped
abbrev pub detail_of : Outcome → ℕ
detail_of outcome.Budget = 0
detail_of (outcome.Ended status) = status
detail_of (outcome.Trapped pc cause) = cause_number cause
detail_of (outcome.Port fault) = 0

-- ---- memory

-- a window of memory from an address on, before a call and after it
pub record Window : Type 0 where
  pub from : ℕ
  pub before : List ℕ
  pub after : List ℕ

-- each byte of the window is that of its address
pub record Shows (window : Window) (s : Space) : Type 0 where
  pub same : length window.after ≡ length window.before
  pub bytes_are : (i : ℕ) → i < length window.before → slice_index window.after i ≡ shown_byte s (window.from + i)

-- ---- how far

-- the file has an image, from which `standing.steps` instructions over the input, at most `count`, reach this machine, output and outcome.
-- They are as few as they can be: before the last of them the run went on and was not to halt; where it goes on after them,
-- they are `count`, or it is to halt there
pub record Stands (file input : List ℕ) (count : ℕ) (halt : Halt) (answer : ℕ) (standing : Standing) (window : Window) (out : Buffer) : Type 0 where
  pub image : Image
  pub loads : file_image file ≡ Ok image
  pub run : Outcome
  pub machine : Machine
  pub after : MemoryView
  pub meets : RunMeets (Some []) (start_world image input) standing.steps run machine (port_of after)
  pub passes : (k : ℕ) → k < standing.steps → Passes halt k (rvrun k (start_world image input))
  pub most : standing.steps ≤ count
  pub halts : run ≡ outcome.Budget → (standing.steps ≡ count) ⊎ ((halt.after ≤ standing.steps) × (machine.pc ≡ halt.at))
  pub answer_is : answer ≡ outcome_number run
  pub detail_is : standing.detail ≡ detail_of run
  pub pc_is : standing.pc ≡ machine.pc
  pub registers_are : standing.registers ≡ machine.registers
  pub output_got : Got out after.output
  pub window_shows : Shows window machine.space

-- 4, and the number of why the file is not loaded; or 801, when memory for the input ran out; all else stays, and nothing is shown
pub record FailsToStand (file : List ℕ) (answer : ℕ) (before standing : Standing) (window : Window) (out : Buffer) : Type 0 where
  pub answer_is : answer ≡ 4
  pub detail_is : ((why : LoadFault) × FailsToLoad file why × (standing.detail ≡ number_of (code_of why))) ⊎ (standing.detail ≡ 801)
  pub standing_is : standing ≡ record before { detail = standing.detail; output = 0 }
  pub window_stays : window.after ≡ window.before
  pub out_stays : out.after ≡ out.before
