-- The effect of a command on its port, its message, and its exit status.
use Rattle.std.specs.Prelude.{◌≡◌, ◌⊎◌, ℕ, List, [], Some, Ok, Err, IsOk}
use Rattle.std.specs.Io.KnownBytes.{Appends}
use Rattle.srcset.specs.Files.{Files}
use Rattle.srcset.specs.NameTable.{Texts}
use Rattle.phases.specs.Token.{Token}
use Rattle.pp.specs.Printed.{printed, IsPrintRefused}
use Rattle.rv32.specs.Step.{Machine}
use Rattle.loader.specs.File.{Image, file_image}
use Rattle.io_ports.specs.Port.{PortView}
use Rattle.io_ports.specs.declared.port.PortFault.{PortFault}
use Rattle.sim.specs.Meets.{RunMeets, Counts, Blames}
use Rattle.sim.specs.declared.machine.Outcome.{Outcome}
use Rattle.sim.specs.declared.machine.Outcome.TheVariants as outcome
use Rattle.sim.specs.Runs.{start_world}
use Rattle.cc.specs.declared.performing.Cmd.{Cmd}
use Rattle.cc.specs.declared.performing.Cmd.TheVariants as command
use Rattle.cc.specs.declared.compiling.Built.{Built}
use Rattle.srcset.specs.declared.fault.Fault.{Fault}
use Rattle.srcset.specs.declared.code.Code.TheVariants.{CannotWrite}
use Rattle.srcset.specs.Fault.{IsFault, IsFaultOrMemory, IsMemoryFault}
use Rattle.asm.specs.declared.item.Item.{Item}
use Rattle.asm.specs.Listing.{Lists}
use Rattle.asm.specs.Refusals.{WritesBeginning}
use Rattle.memory_map.specs.MemoryMap.{text_start}
use Rattle.loader.specs.declared.fault.LoadFault.{LoadFault}
use Rattle.loader.specs.Fault.{code_of}
use Rattle.tree.specs.Tree.{ExternalTree}
use Rattle.typing_spec.specs.Program.{Program}
use Rattle.cabs.specs.declared.outcome.Run.{Run as Interpreted}
use Rattle.cabs.specs.declared.outcome.Run.TheVariants as interpreted
use Rattle.cabs.specs.Interpreting as interpreting
use Rattle.cc.specs.Compiled.{HasList, HasProgram}
use Rattle.cc.specs.Made.{IsMade, IsListed}
use Rattle.cc.specs.Refused.{FailsPreprocessing, IsRefused}
use Rattle.cc.specs.Reported.{Said, Says, SaysOutcome, SaysRun, fault_text}
use Rattle.cc.specs.Transfer.{PutsAll, WritesSome}

-- ---- building

-- the set is a program, and its whole file was put
pub record BuildsInto (stack : ℕ) (set : Files) (name : List ℕ) (old new : PortView) : Type 0 where
  pub built : Built
  pub made : IsMade stack set name built
  pub puts : PutsAll old new built.elf.items

-- the set is a program, and its file was not put whole
pub record BuildsSome (stack : ℕ) (set : Files) (name output : List ℕ) (refuses : PortFault → Type 0) (old new : PortView) (fault : Fault) : Type 0 where
  pub built : Built
  pub made : IsMade stack set name built
  pub writes : WritesSome output built.elf.items refuses old new fault

-- the set is refused with this fault, and nothing was put; or its file was not put whole
abbrev pub FailsBuild : (stack : ℕ) → Files → List ℕ → List ℕ → (PortFault → Type 0) → PortView → PortView → Fault → Type 0
FailsBuild stack set name output refuses old new fault = ((new ≡ old) × IsRefused stack set name fault) ⊎ BuildsSome stack set name output refuses old new fault

-- 0, and the whole file was put and nothing printed; or 1 and a fault, which is printed
abbrev pub Builds : (stack : ℕ) → Files → List ℕ → List ℕ → (PortFault → Type 0) → PortView → PortView → Said → ℕ → Type 0
Builds stack set name output refuses old new said status =
    ((status ≡ 0) × BuildsInto stack set name old new × (said.after ≡ said.before))
    ⊎ ((status ≡ 1) × ((fault : Fault) × FailsBuild stack set name output refuses old new fault × Says said (fault_text fault)))

-- ---- printing

-- the bytes that a writer took before a call and after it, where they are known, are the same
abbrev pub IsUntouched : Said → Type 0
IsUntouched out = out.after ≡ out.before

-- the set has these tokens, and their whole text was written
pub record PrintsAll (set : Files) (name : List ℕ) (out : Said) : Type 0 where
  pub texts : Texts
  pub list : List Token
  pub has_list : HasList set name texts list
  pub written : Appends out.before out.after (printed list)

-- the set has these tokens, and their text was not written whole, for this fault
pub record PrintsSome (set : Files) (name : List ℕ) (out : Said) (fault : Fault) : Type 0 where
  pub texts : Texts
  pub list : List Token
  pub has_list : HasList set name texts list
  pub refused : IsPrintRefused list out.before out.after fault

-- the set has no tokens, or memory ran out, as this fault reports, and nothing was written; or they were not written whole
abbrev pub FailsPrint : Files → List ℕ → Said → Fault → Type 0
FailsPrint set name out fault =
    (IsUntouched out × (FailsPreprocessing set name fault ⊎ IsMemoryFault fault)) ⊎ PrintsSome set name out fault

-- 0, and the whole text was written and nothing printed; or 1 and a fault, which is printed
abbrev pub Prints : Files → List ℕ → Said → Said → ℕ → Type 0
Prints set name out said status =
    ((status ≡ 0) × PrintsAll set name out × IsUntouched said)
    ⊎ ((status ≡ 1) × ((fault : Fault) × FailsPrint set name out fault × Says said (fault_text fault)))

-- ---- listing

-- the whole listing of the set's file was written: a line for each word of its text
pub record ListsAll (stack : ℕ) (set : Files) (name : List ℕ) (out : Said) : Type 0 where
  pub built : Built
  pub items : List Item
  pub listed : IsListed stack set name built items
  pub lists : Lists text_start items out.before out.after

-- the set has a file, and its listing was not written whole: memory ran out before, or the writer took a beginning of it
pub record ListsSome (stack : ℕ) (set : Files) (name : List ℕ) (out : Said) (fault : Fault) : Type 0 where
  pub built : Built
  pub items : List Item
  pub listed : IsListed stack set name built items
  pub refused : (IsMemoryFault fault × IsUntouched out) ⊎ (IsFault fault CannotWrite [] 0 × WritesBeginning text_start items out.before out.after)

-- the set is refused, and nothing was written; or the listing was not written whole
abbrev pub FailsList : (stack : ℕ) → Files → List ℕ → Said → Fault → Type 0
FailsList stack set name out fault = (IsUntouched out × IsRefused stack set name fault) ⊎ ListsSome stack set name out fault

-- 0, and the whole listing was written and nothing printed; or 1 and a fault, which is printed
abbrev pub ListsCode : (stack : ℕ) → Files → List ℕ → Said → Said → ℕ → Type 0
ListsCode stack set name out said status =
    ((status ≡ 0) × ListsAll stack set name out × IsUntouched said)
    ⊎ ((status ≡ 1) × ((fault : Fault) × FailsList stack set name out fault × Says said (fault_text fault)))

-- ---- running

-- the exit status after a run: the program's own, or that of why it did not end by itself
abbrev pub exit_status : Outcome → ℕ
exit_status (outcome.Ended s) = s
exit_status outcome.Budget = 124
exit_status (outcome.Trapped pc cause) = 125
exit_status (outcome.Port fault) = 126

-- the run from an image had the outcome of the definition's run of max instructions over the port, or the port's fault before it, and that gives the exit
-- status and the message; the port's fault is the one that the port refused with
pub record RanAs (image : Image) (max : ℕ) (refuses : PortFault → Type 0) (old new : PortView) (said : Said) (status : ℕ) : Type 0 where
  pub run : Outcome
  pub machine : Machine
  pub status_is : status ≡ exit_status run
  pub says : SaysOutcome said run
  pub meets : (input : List ℕ) → old.input ≡ Some input → RunMeets old.output (start_world image input) max run machine new
  pub counts : Counts run old.failures new.failures
  pub blames : Blames refuses run

-- the file is refused, and this fault says why; or it has an image, for which there was no memory
abbrev pub FailsLoad : List ℕ → List ℕ → Fault → Type 0
FailsLoad file name fault =
    ((why : LoadFault) × (file_image file ≡ Err why) × IsFaultOrMemory fault (code_of why) name 0) ⊎ (IsOk (file_image file) × IsMemoryFault fault)

-- the file has an image, from which the run went; or 1 and a fault, which is printed, and the port was not touched
abbrev pub Runs : List ℕ → List ℕ → ℕ → (PortFault → Type 0) → PortView → PortView → Said → ℕ → Type 0
Runs file name max refuses old new said status =
    ((image : Image) × (file_image file ≡ Ok image) × RanAs image max refuses old new said status)
    ⊎ ((status ≡ 1) × (new ≡ old) × ((fault : Fault) × FailsLoad file name fault × Says said (fault_text fault)))

-- ---- interpreting

-- the exit status after interpreting a program: its own, or that of why it did not end by itself
abbrev pub interpreted_status : Interpreted → ℕ
interpreted_status (interpreted.Ended s) = s
interpreted_status (interpreted.Undefined act at) = 123
interpreted_status interpreted.TicksUsed = 124
interpreted_status (interpreted.Port fault) = 126
interpreted_status interpreted.Memory = 1

-- the behaviour of the program on the port's input with at most max ticks is that of its definition, or the run was abandoned, and that gives the exit status
-- and the message; the port's fault is the one that the port refused with
pub record InterpretedAs (texts : Texts) (program : Program) (max : ℕ) (refuses : PortFault → Type 0) (old new : PortView) (said : Said) (status : ℕ) : Type 0 where
  pub run : Interpreted
  pub greatest : ℕ
  pub status_is : status ≡ interpreted_status run
  pub says : SaysRun texts said run
  pub meets : (input : List ℕ) → old.input ≡ Some input → interpreting.RunMeets program input max run greatest old new
  pub counts : interpreting.Counts run old.failures new.failures
  pub blames : interpreting.Blames refuses run

-- the set has a program, which was interpreted
pub record InterpretsSet (stack : ℕ) (set : Files) (name : List ℕ) (max : ℕ) (refuses : PortFault → Type 0) (old new : PortView) (said : Said) (status : ℕ) : Type 0 where
  pub texts : Texts
  pub unit : List ExternalTree
  pub program : Program
  pub has_program : HasProgram stack set name texts unit program
  pub interpreted_as : InterpretedAs texts program max refuses old new said status

-- the set has a program, which was interpreted; or it has none, as the printed fault reports
abbrev pub Interprets : (stack : ℕ) → Files → List ℕ → ℕ → (PortFault → Type 0) → PortView → PortView → Said → ℕ → Type 0
Interprets stack set name max refuses old new said status =
    InterpretsSet stack set name max refuses old new said status
    ⊎ ((status ≡ 1) × (new ≡ old) × ((fault : Fault) × IsRefused stack set name fault × Says said (fault_text fault)))

-- By the main file's name, for a stack of `stack` bytes. Only printed tokens and listings go to `out`, and they do not touch the port.
abbrev pub Performs : (stack : ℕ) → Cmd → Files → List ℕ → List ℕ → (PortFault → Type 0) → PortView → PortView → Said → Said → ℕ → Type 0
Performs stack (command.Build output) set name file refuses old new out said status = IsUntouched out × Builds stack set name output.now refuses old new said status
Performs stack command.Pp set name file refuses old new out said status = (new ≡ old) × Prints set name out said status
Performs stack command.List set name file refuses old new out said status = (new ≡ old) × ListsCode stack set name out said status
Performs stack (command.Run max) set name file refuses old new out said status = IsUntouched out × Runs file name max refuses old new said status
Performs stack (command.Interp max) set name file refuses old new out said status = IsUntouched out × Interprets stack set name max refuses old new said status
