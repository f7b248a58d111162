-- The answers of a machine that is kept, and its state after them.
use Rattle.std.specs.Prelude.{◌≡◌, ◌⊎◌, ◌<◌, ◌≤◌, ℕ, ◌+◌, ◌-◌, ◌%◌, ◌^◌, ◌++◌, ◌∷◌, ◌==◌, List, [], true, false, Option, Some, None, Ok, min, vec_len, slice_get, nat_lt, if◌then◌else◌, replicate}
use Rattle.rv32.specs.Space.{space_of, with_bytes, byte_put}
use Rattle.rv32.specs.Step.{Machine, machine_of, register, with_register}
use Rattle.rv32.specs.declared.state.State.{State}
use Rattle.srcset.specs.Codes.{number_of}
use Rattle.loader.specs.File.{Image, file_image}
use Rattle.loader.specs.Fault.{code_of}
use Rattle.loader.specs.Loading.{FailsToLoad}
use Rattle.loader.specs.declared.fault.LoadFault.{LoadFault}
use Rattle.io_ports.specs.Port.{PortView}
use Rattle.sim.specs.declared.machine.Outcome.{Outcome}
use Rattle.sim.specs.declared.machine.Outcome.TheVariants as outcome
use Rattle.sim.specs.Runs.{World, start_of, rvrun}
use Rattle.sim.specs.Meets.{At, RunMeets, Blames}
use Rattle.machine_kept.specs.Standing.{Passes, shown_byte, answer_of, outcome_detail}
use Rattle.machine_kept.specs.Feeds.{port_of, Lacks, IsFresh}
use Rattle.machine_kept.specs.declared.kept.Kept.{Kept}
use Rattle.machine_kept.specs.declared.stepping.Reached.{Reached}

-- its registers, pc and memory
abbrev pub machine_now : Kept → Machine
machine_now m = machine_of m.state

-- the input that was given and not read, and the output
abbrev pub port_now : Kept → PortView
port_now m = port_of m.port

-- ---- the start

-- registers and pc are 0, and there is no memory
abbrev pub IsOne : State → Type 0
IsOne s = machine_of s ≡ record { registers = replicate 32 0; pc = 0; space = space_of [] }

-- nothing was taken, and no instruction done
pub record IsFirst (m : Kept) : Type 0 where
  pub port_is : IsFresh m.port
  pub taken_is : m.taken ≡ 0
  pub steps_are : m.steps ≡ 0
  pub stopped_is : m.stopped ≡ None

pub record IsNew (m : Kept) : Type 0 where
  pub state_is : IsOne m.state
  pub file_is : m.file.items ≡ []
  pub first : IsFirst m

-- ---- its inputs

-- the file has one byte more, or 801: then it is as it was
pub record TakesFile (byte : ℕ) (old : Kept) (answer : ℕ) (new : Kept) : Type 0 where
  pub rest_stays : new ≡ record old { file = new.file }
  pub file_is : ((answer ≡ 0) × (new.file.items ≡ old.file.items ++ byte % 2 ^ 8 ∷ [])) ⊎ ((answer ≡ 801) × (new.file.items ≡ old.file.items))

-- it is at the start of the image
pub record StartsAt (image : Image) (old new : Kept) : Type 0 where
  pub machine_is : machine_now new ≡ start_of image
  pub file_is : new.file ≡ old.file
  pub first : IsFirst new

-- it is at the start of the file's image; or why the file is not loaded: then it is as it was
abbrev pub Loads : Kept → ℕ → Kept → Type 0
Loads old answer new =
    ((image : Image) × (file_image old.file.items ≡ Ok image) × (answer ≡ 0) × StartsAt image old new)
    ⊎ ((why : LoadFault) × FailsToLoad old.file.items why × (answer ≡ number_of (code_of why)) × (new ≡ old))

-- the input has one byte more, or it is closed, or 801: then it is as it was
pub record TakesInput (byte : ℕ) (old : Kept) (answer : ℕ) (new : Kept) : Type 0 where
  pub rest_stays : new ≡ record old { port = record old.port { input = new.port.input } }
  pub input_is : ((answer ≡ 0) × (old.port.closed ≡ false) × (new.port.input.items ≡ old.port.input.items ++ byte % 2 ^ 8 ∷ []))
      ⊎ ((answer ≡ 1) × (old.port.closed ≡ true) × (new ≡ old))
      ⊎ ((answer ≡ 801) × (new.port.input.items ≡ old.port.input.items))

abbrev pub Closes : Kept → ℕ → Kept → Type 0
Closes old answer new = (answer ≡ 0) × (new ≡ record old { port = record old.port { closed = true } })

-- ---- runs

abbrev took_by : ℕ → Outcome → ℕ
took_by n outcome.Budget = n
took_by n (outcome.Ended s) = n
took_by n (outcome.Trapped pc c) = n
took_by n (outcome.Port x) = n - 1

-- how many instructions were taken, without a call that the port refused
abbrev pub took : Reached → ℕ
took r = took_by r.steps r.outcome

-- the outcome with which it stopped
abbrev pub stopped_by : Outcome → Option Outcome
stopped_by outcome.Budget = None
stopped_by (outcome.Ended s) = Some (outcome.Ended s)
stopped_by (outcome.Trapped pc c) = Some (outcome.Trapped pc c)
stopped_by (outcome.Port x) = None

-- from its current world, `steps` instructions have this outcome, at most `max`, and as few as possible: before the last of them the run went on and was not to
-- halt; where it goes on after them, they are `max`, or it is to halt there
pub record GoesOn (max halt : ℕ) (old : Kept) (answer : ℕ) (new : Kept) : Type 0 where
  pub reached : Reached
  pub meets : (o : Option (List ℕ)) (w : World) → At o w (machine_now old) (port_now old) → RunMeets o w reached.steps reached.outcome (machine_now new) (port_now new)
  pub passes : (o : Option (List ℕ)) (w : World) → At o w (machine_now old) (port_now old) → (k : ℕ) → k < reached.steps → Passes (record { after = 1; at = halt % 2 ^ 32 }) k (rvrun k w)
  pub most : reached.steps ≤ max
  pub halts : reached.outcome ≡ outcome.Budget → (reached.steps ≡ max) ⊎ ((1 ≤ reached.steps) × (new.state.pc ≡ halt % 2 ^ 32))
  pub lacks : Blames (Lacks new.port) reached.outcome
  pub answer_is : answer ≡ answer_of reached.outcome
  pub steps_are : new.steps ≡ min (old.steps + took reached) (2 ^ 64 - 1)
  pub stopped_is : new.stopped ≡ stopped_by reached.outcome
  pub rest_stays : new ≡ record old { state = new.state; port = new.port; steps = new.steps; stopped = new.stopped }

-- it goes on, or had stopped: then the same is answered again, and it is as it was
abbrev pub Runs : ℕ → ℕ → Kept → ℕ → Kept → Type 0
Runs max halt old answer new =
    ((o : Outcome) × (old.stopped ≡ Some o) × (answer ≡ answer_of o) × (new ≡ old)) ⊎ ((old.stopped ≡ None) × GoesOn max halt old answer new)

-- ---- its results

-- the status with which it ended, or the number of why it trapped
abbrev pub detail_now : Option Outcome → ℕ
detail_now None = 0
detail_now (Some o) = outcome_detail o

-- the next byte of the output that was not taken, or 256
abbrev pub GivesOutput : Kept → ℕ → Kept → Type 0
GivesOutput old answer new =
    ((slice_get old.port.output.items old.taken ≡ Some answer) × (new ≡ record old { taken = old.taken + 1 }))
    ⊎ ((vec_len old.port.output ≤ old.taken) × (answer ≡ 256) × (new ≡ old))

-- a register, or the pc by 32
abbrev pub register_shown : ℕ → Kept → ℕ
register_shown k m = if nat_lt k 32 then register (machine_now m) k else (if k == 32 then m.state.pc else 0)

-- the byte at an address, where the program may read it, and else 0
abbrev pub byte_shown : ℕ → Kept → ℕ
byte_shown a m = shown_byte (machine_now m).space a

-- ---- outside the theorem: registers and memory that are set

pub record SetsRegister (k value : ℕ) (old : Kept) (answer : ℕ) (new : Kept) : Type 0 where
  pub register : k < 32 → (answer ≡ 0) × (new ≡ record old { state = record old.state { registers = with_register old.state.registers k (value % 2 ^ 32) }; stopped = None })
  pub pc : k ≡ 32 → (answer ≡ 0) × (new ≡ record old { state = record old.state { pc = value % 2 ^ 32 }; stopped = None })
  pub none : 32 < k → (answer ≡ 1) × (new ≡ old)

-- the byte is written where the program may write it
pub record Writes (a byte : ℕ) (old : Kept) (answer : ℕ) (new : Kept) : Type 0 where
  pub answer_is : answer ≡ (if nat_lt a (2 ^ 32) then (if (machine_now old).space.can_write a then 1 else 0) else 0)
  pub space_is : (machine_now new).space ≡ (if answer == 1 then with_bytes (machine_now old).space (byte_put a (byte % 2 ^ 8)) else (machine_now old).space)
  pub rest_stays : new ≡ record old { state = record old.state { memory = new.state.memory } }
