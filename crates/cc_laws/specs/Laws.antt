-- What is promised of a built file, in terms of its observable behaviour: its input and output, whether it traps, with which status it ends
-- (ISO/IEC 9899:2011 5.1.2.3p6).
use Rattle.std.specs.Prelude.{◌≡◌, ◌≤◌, ◌<◌, ℕ, ◌+◌, ◌-◌, ◌*◌, ◌%◌, ◌^◌, ◌||◌, nat_le, if◌then◌else◌, List, ◌++◌, length, reverse, true, Option, Some, Ok}
use Rattle.srcset.specs.declared.refusal.Pos.{Pos}
use Rattle.tree.specs.Tree.{ExternalTree}
use Rattle.rv32.specs.declared.instr.Instr.{Instr}
use Rattle.rv32.specs.declared.instr.Instr.TheVariants.{Load, Store, Ecall}
use Rattle.rv32.specs.declared.instr.LoadKind.{LoadKind}
use Rattle.rv32.specs.declared.instr.LoadKind.TheVariants as load_kind
use Rattle.rv32.specs.declared.instr.StoreKind.{StoreKind}
use Rattle.rv32.specs.declared.instr.StoreKind.TheVariants as store_kind
use Rattle.rv32.specs.declared.state.Cause.{Cause}
use Rattle.rv32.specs.Words.{decode_of}
use Rattle.rv32.specs.Space.{Space, all_four, both, word_at}
use Rattle.rv32.specs.Step.{Machine, register}
use Rattle.loader.specs.File.{Image, file_image}
use Rattle.memory_map.specs.MemoryMap.{text_start, data_start, stack_end}
use Rattle.elf_out.specs.Layout.{Parts}
use Rattle.elf_out.specs.Program.{is_within, is_text, is_data, is_stack}
use Rattle.frames_code.specs.Run as flat
use Rattle.select_correct.specs.Runs.{StandsWith, slack}
use Rattle.select_correct.specs.Convention.{KeepsConvention, ComesToCall, behind_call}
use Rattle.csem_events.specs.Events.{Event}
use Rattle.sim.specs.Runs as sim
use Rattle.sim.specs.Runs.{World, Progress, Running, Trapped, rvrun, start_world}
use Rattle.typing_spec.specs.Program.{Program}
use Rattle.typing_spec.specs.Verdict.{fine}
use Rattle.typing_spec.specs.Units.{unit_typed}
use Rattle.csem.specs.Machine.{Ending, Ended, Undefined, TicksUsed}
use Rattle.csem.specs.History.{Entry, active}
use Rattle.csem.specs.Laws.{Grows}
use Rattle.csem.specs.Meaning.{cstep, answer, last_of}
use Rattle.cc_backend.specs.Runs.{RunsAs, IsInput}
use Rattle.cc_backend.specs.FlatImages.{FitStack}
use Rattle.cc_backend.specs.Made.{IsFileOf}

-- ---- the premises

-- the run has ended with a status, or has used its ticks: it has met no undefined behaviour
abbrev pub IsDefined : Ending → Type 0
IsDefined (Ended status) = Unit {0}
IsDefined (Undefined act at) = ⊥
IsDefined TicksUsed = Unit {0}

-- for every number of ticks, the program meets no undefined behaviour on this input, and the weights of its active calls never sum to more than the stack
abbrev pub StaysDefined : (stack : ℕ) → Program → (input : List ℕ) → Type 0
StaysDefined stack p input = (n : ℕ) → IsDefined (answer n p input).ending × ((answer n p input).greatest ≤ stack)

-- the file has an image, of which this holds
abbrev pub HasImage : (file : List ℕ) → (Image → Type 0) → Type 0
HasImage file Promise = (image : Image) × (file_image file ≡ Ok image) × Promise image

-- for every stack size, every program, and every file that runs as it does: from its image, for every input of bytes on which the program stays defined
abbrev pub OfEachFile : (Program → Image → (input : List ℕ) → Type 0) → Type 0
OfEachFile Promise =
    (stack : ℕ) (p : Program) (frames file : List ℕ) → RunsAs stack p frames file
    → HasImage file (λ image. (input : List ℕ) → IsInput input → StaysDefined stack p input → Promise p image input)

-- the file's run of k instructions on an input
abbrev pub run_of : Image → (input : List ℕ) → (k : ℕ) → Progress
run_of image input k = rvrun k (start_world image input)

-- the input and output of a run so far, in order
abbrev pub done_in : Progress → List Event
done_in (Running w) = reverse w.trace
done_in (sim.Ended status w) = reverse w.trace
done_in (Trapped c w) = reverse w.trace

-- ---- what the file does

-- all that the abstract machine does: what it has done within any n ticks, the file has done after some k instructions
abbrev pub DoesAll : Type 0
DoesAll = OfEachFile (λ p image input. (n : ℕ) → (k : ℕ) × (done_in (run_of image input k) ≡ (answer n p input).trace))

abbrev pub IsBeginning : (first whole : List Event) → Type 0
IsBeginning first whole = (more : List Event) × (whole ≡ first ++ more)

-- and nothing else: what the file has done after any k instructions is a prefix of what the abstract machine does within some n ticks
abbrev pub DoesNoMore : Type 0
DoesNoMore = OfEachFile (λ p image input. (k : ℕ) → (n : ℕ) × IsBeginning (done_in (run_of image input k)) (answer n p input).trace)

-- ---- where it stays

-- it has not trapped after any number of instructions
abbrev pub NeverTraps : Type 0
NeverTraps = OfEachFile (λ p image input. (k : ℕ) (c : Cause) (w : World) → run_of image input k ≡ Trapped c w → ⊥)

-- each byte that a load at a reads is readable
abbrev pub MayLoad : Space → LoadKind → (a : ℕ) → Type 0
MayLoad s load_kind.Byte a = s.can_read a ≡ true
MayLoad s load_kind.ByteUnsigned a = s.can_read a ≡ true
MayLoad s load_kind.Half a = both s.can_read a ≡ true
MayLoad s load_kind.HalfUnsigned a = both s.can_read a ≡ true
MayLoad s load_kind.Word a = all_four s.can_read a ≡ true

-- each byte that a store at a writes is writable
abbrev pub MayStore : Space → StoreKind → (a : ℕ) → Type 0
MayStore s store_kind.Byte a = s.can_write a ≡ true
MayStore s store_kind.Half a = both s.can_write a ≡ true
MayStore s store_kind.Word a = all_four s.can_write a ≡ true

-- the instruction at the machine's pc
abbrev pub instruction_at : Machine → Option Instr
instruction_at m = decode_of (word_at m.space.byte m.pc)

-- The word at the pc is executable. What it loads is readable, and what it stores is writable; if it is an environment call, the byte at
-- a1 that 63 stores is writable, and the one that 64 loads is readable.
pub record IsInside (s : Space) (m : Machine) : Type 0 where
  pub fetches : all_four s.can_execute m.pc ≡ true
  pub loads : (kind : LoadKind) (rd base v : ℕ) → instruction_at m ≡ Some (Load kind rd base v) → MayLoad s kind ((register m base + v) % 2 ^ 32)
  pub stores : (kind : StoreKind) (source base v : ℕ) → instruction_at m ≡ Some (Store kind source base v) → MayStore s kind ((register m base + v) % 2 ^ 32)
  pub gets : instruction_at m ≡ Some Ecall → register m 17 ≡ 63 → s.can_write (register m 11) ≡ true
  pub puts : instruction_at m ≡ Some Ecall → register m 17 ≡ 64 → s.can_read (register m 11) ≡ true

-- at each instruction, by the permissions with which the file was loaded
abbrev pub StaysInside : Type 0
StaysInside = OfEachFile (λ p image input. (k : ℕ) (w : World) → run_of image input k ≡ Running w → IsInside image.space w.machine)

-- the text is executable, the data and the stack are readable and writable, and nothing else is
pub record IsLaidOut (parts : Parts) (s : Space) : Type 0 where
  pub executes : (a : ℕ) → s.can_execute a ≡ is_text parts a
  pub reads : (a : ℕ) → s.can_read a ≡ (is_data parts a || is_stack parts a)
  pub writes : (a : ℕ) → s.can_write a ≡ (is_data parts a || is_stack parts a)

-- those are the permissions of a file made of a program, whose stack has the requested size
abbrev pub FilesAreLaidOut : Type 0
FilesAreLaidOut = (stack : ℕ) (p : Program) (file frames : List ℕ) (made : IsFileOf stack p file frames) → HasImage file (λ image. IsLaidOut made.parts image.space × (made.parts.stack ≡ stack))

-- ---- how it calls (RISC-V ELF psABI, "Integer Calling Convention")

-- the addresses of the labels of the file: function number f is at label f
abbrev pub labels : {stack : ℕ} {p : Program} {file frames : List ℕ} → IsFileOf stack p file frames → ℕ → ℕ
labels made = made.image_is.assembled.env

-- where its data begin
abbrev pub data_of : {stack : ℕ} {p : Program} {file frames : List ℕ} → IsFileOf stack p file frames → ℕ
data_of made = data_start (length made.parts.text)

-- for any number of steps
abbrev pub Always : ℕ → Type 0
Always m = Unit {0}

-- each call that the run of its flat code reaches keeps the calling convention, with one entry for any number of steps ..
abbrev pub CallsAreKept : {stack : ℕ} {p : Program} {file frames : List ℕ} → IsFileOf stack p file frames → Image → (input : List ℕ) → Type 0
CallsAreKept made image input =
    (n f : ℕ) (s : flat.State) → ComesToCall made.code input n f s
    → KeepsConvention made.code (labels made) (data_of made) (λ k. run_of image input k)
    (labels made f) (behind_call made.code (labels made) s) (flat.entered s f) Always

-- .. and main does, which returns to the 16th byte of the text
abbrev pub MainIsKept : {stack : ℕ} {p : Program} {file frames : List ℕ} → IsFileOf stack p file frames → Image → (input : List ℕ) → Type 0
MainIsKept made image input =
    KeepsConvention made.code (labels made) (data_of made) (λ k. run_of image input k)
    (labels made made.code.main) (text_start + 24) (flat.start made.code input) Always

-- this holds of each file made of a program, on every input on which the program stays defined
abbrev pub FilesKeepConvention : Type 0
FilesKeepConvention =
    (stack : ℕ) (p : Program) (file frames : List ℕ) (made : IsFileOf stack p file frames)
    → HasImage file (λ image. (input : List ℕ) → IsInput input → StaysDefined stack p input
    → CallsAreKept made image input × MainIsKept made image input)

-- ---- how deep it uses the stack

-- the data, and the stack from an address up, are readable and writable
abbrev pub space_from : Parts → (low : ℕ) → Space → Space
space_from parts low s = record {
  byte = s.byte;
  can_read = λ a. is_data parts a || is_within low (stack_end - low) a;
  can_write = λ a. is_data parts a || is_within low (stack_end - low) a;
  can_execute = s.can_execute;
}

-- The run of its flat code has reached s in n steps, and on the way the frames of the active calls never took more than this many bytes together: the
-- machine is at s, and no earlier instruction has loaded or stored in the stack below these bytes. So a function whose frame is the lowest so
-- far touches nothing below its stack pointer.
abbrev pub FramesAreAllItTouches : {stack : ℕ} {p : Program} {file frames : List ℕ} → IsFileOf stack p file frames → Image → (input : List ℕ) → Type 0
FramesAreAllItTouches made image input =
    (n most : ℕ) (s : flat.State) → most ≤ made.parts.stack → flat.run made.code n (flat.start made.code input) ≡ flat.running s
    → ((i : ℕ) → i ≤ n → FitStack most made.code (flat.run made.code i (flat.start made.code input)))
    → (k : ℕ) × (w : World) × (n < slack made.code * k) × (run_of image input k ≡ Running w) × StandsWith made.code (labels made) s w
    × ((j : ℕ) (v : World) → j < k → run_of image input j ≡ Running v → IsInside (space_from made.parts (stack_end - most) image.space) v.machine)

-- this holds of each file made of a program, on every input of bytes
abbrev pub FilesTouchTheirFrames : Type 0
FilesTouchTheirFrames =
    (stack : ℕ) (p : Program) (file frames : List ℕ) (made : IsFileOf stack p file frames)
    → HasImage file (λ image. (input : List ℕ) → IsInput input → FramesAreAllItTouches made image input)

abbrev pub lower : ℕ → ℕ → ℕ
lower a b = if nat_le a b then a else b

-- A step of its flat code, from s to t, where the run has reached s in n steps: the machine is at s and then at t, and between the two no instruction loads or
-- stores in the stack below the stack pointer, that is, below the lower of the two if the step enters or leaves a function.
abbrev pub StepsStayAbove : {stack : ℕ} {p : Program} {file frames : List ℕ} → IsFileOf stack p file frames → Image → (input : List ℕ) → Type 0
StepsStayAbove made image input =
    (n : ℕ) (s t : flat.State) → flat.run made.code n (flat.start made.code input) ≡ flat.running s → flat.step made.code s ≡ flat.running t
    → (k j : ℕ) × (v w : World) × (run_of image input k ≡ Running v) × StandsWith made.code (labels made) s v × (run_of image input (k + j) ≡ Running w) × StandsWith made.code (labels made) t w
    × ((i : ℕ) (u : World) → i < j → run_of image input (k + i) ≡ Running u
    → IsInside (space_from made.parts (lower (register v.machine 2) (register w.machine 2)) image.space) u.machine)

-- this holds on every input on which the program stays defined
abbrev pub FilesStayAbove : Type 0
FilesStayAbove =
    (stack : ℕ) (p : Program) (file frames : List ℕ) (made : IsFileOf stack p file frames)
    → HasImage file (λ image. (input : List ℕ) → IsInput input → StaysDefined stack p input → StepsStayAbove made image input)

-- At each instruction: nothing is loaded or stored in the stack below the stack pointer that the machine has there. So at no instruction is the memory below in use, for example
-- by a function that is about to take a frame. The stack pointer is 0 until the first two instructions have set it: nothing is below it then.
abbrev pub TouchesNothingBelow : Parts → Image → (input : List ℕ) → Type 0
TouchesNothingBelow parts image input =
    (k : ℕ) (w : World) → run_of image input k ≡ Running w → IsInside (space_from parts (register w.machine 2) image.space) w.machine

-- this holds on every input on which the program stays defined
abbrev pub FilesTouchNothingBelow : Type 0
FilesTouchNothingBelow =
    (stack : ℕ) (p : Program) (file frames : List ℕ) (made : IsFileOf stack p file frames)
    → HasImage file (λ image. (input : List ℕ) → IsInput input → StaysDefined stack p input → TouchesNothingBelow made.parts image input)

-- ---- which calls are active

-- what the abstract machine has done at some moment within its first n ticks
abbrev pub HasComeTo : Program → (input : List ℕ) → (n : ℕ) → List Entry → Type 0
HasComeTo p input n history = Grows history (last_of (cstep n p input)).history

-- The calls active at a step of the flat code, the innermost first, are those active at such a moment of the abstract machine's run.
abbrev pub FilesCallAsMeant : Type 0
FilesCallAsMeant =
    (stack : ℕ) (p : Program) (file frames : List ℕ) (made : IsFileOf stack p file frames) (input : List ℕ) → IsInput input → StaysDefined stack p input
    → (k : ℕ) (s : flat.State) → flat.run made.code k (flat.start made.code input) ≡ flat.running s
    → (n : ℕ) × (history : List Entry) × HasComeTo p input n history × (flat.active s ≡ active history)

-- ---- how it ends

-- as the abstract machine does: if the file has ended with a status, that machine ends with it within some n ticks, having done the same
abbrev pub EndsOnlySo : Type 0
EndsOnlySo = OfEachFile (λ p image input. (k status : ℕ) (w : World) → run_of image input k ≡ sim.Ended status w
    → (n : ℕ) × ((answer n p input).ending ≡ Ended status) × ((answer n p input).trace ≡ reverse w.trace))

-- main is one of the program's functions
abbrev pub HasMain : Program → Type 0
HasMain p = p.main < length p.functions

-- this holds in the program of every unit that breaks no constraint (5.1.2.2.1), for every stack size
abbrev pub UnitsHaveMain : Type 0
UnitsHaveMain = (stack : ℕ) (texts : List (List ℕ)) (whole : Pos) (unit : List ExternalTree) (p : Program) → unit_typed stack texts whole unit ≡ fine p → HasMain p

-- and in time: if the abstract machine ends within n ticks, the file ends with the same status after at most 64 n + 64 instructions, having done the same
abbrev pub EndsInTime : Type 0
EndsInTime =
    (stack : ℕ) (p : Program) (frames file : List ℕ) → RunsAs stack p frames file → HasMain p
    → HasImage file (λ image. (input : List ℕ) → IsInput input
    → (n status : ℕ) → (answer n p input).ending ≡ Ended status → (answer n p input).greatest ≤ stack
    → (k : ℕ) × (w : World) × (k ≤ 64 * n + 64) × (run_of image input k ≡ sim.Ended status w) × (reverse w.trace ≡ (answer n p input).trace))
