-- The result of a call: a status, an output and a line.
use Rattle.std.specs.Prelude.{◌≡◌, ◌≢◌, ◌⊎◌, ◌==◌, ℕ, List, [], ◌∷◌, ◌++◌, Some, codes, decimal, length, if◌then◌else◌}
use Rattle.srcset.specs.Files.{Files}
use Rattle.srcset.specs.declared.fault.Fault.{Fault}
use Rattle.io_ports.specs.declared.port.PortFault.{PortFault}
use Rattle.io_ports.specs.declared.port.PortFault.TheVariants as port_fault
use Rattle.io_ports.specs.Port.{PortView}
use Rattle.io_ports.specs.Memory.{MemoryView, port_of}
use Rattle.cc.specs.declared.compiling.Built.{Built}
use Rattle.cc.specs.MemoryMap.{IsStackSize, usual_stack}
use Rattle.cc.specs.Compiled.{frames_of}
use Rattle.cc.specs.Made.{IsMade}
use Rattle.cc.specs.Refused.{IsRefused}
use Rattle.cc.specs.declared.performing.Cmd.{Cmd}
use Rattle.cc.specs.Performed.{Performs}
use Rattle.cc.specs.Reported.{Said, fault_text, memory_text}
use Rattle.zikorape.specs.Given.{AreGiven, FailsToGive, total}
use Rattle.zikorape.specs.declared.files.FileLengths.{FileLengths}

-- ---- lines

-- the line of the fault, or that of 801, when memory for it ran out
abbrev pub IsLineOf : Fault → List ℕ → Type 0
IsLineOf fault line = (line ≡ fault_text fault) ⊎ (line ≡ memory_text)

-- a writer that took nothing before, and this in the call
abbrev pub said : List ℕ → Said
said text = record { before = Some []; after = Some text }

-- 1, when out of memory
abbrev pub Wants : ℕ → List ℕ → List ℕ → Type 0
Wants status output line = (status ≡ 1) × (output ≡ []) × (line ≡ memory_text)

-- ---- over files

-- the files that a call is over: their texts, one after another, and the lengths of these
pub record FilesGiven : Type 0 where
  pub texts : List ℕ
  pub lengths : List FileLengths

-- 256, and the lengths do not add up to those of the texts; or 1, and a file is refused, for this fault
abbrev pub NoSet : FilesGiven → ℕ → List ℕ → List ℕ → Type 0
NoSet given status output line =
    ((status ≡ 256) × (total given.lengths ≢ length given.texts) × (output ≡ []) × (line ≡ []))
    ⊎ ((status ≡ 1) × (output ≡ []) × ((fault : Fault) × FailsToGive given.texts given.lengths fault × IsLineOf fault line))

-- they are no set of files; or they are this one, for which this was done
abbrev pub OverFiles : FilesGiven → ℕ → (Files → List ℕ → List ℕ → Type 0) → List ℕ → List ℕ → Type 0
OverFiles given status Does output line =
    NoSet given status output line ⊎ ((set : Files) × AreGiven given.texts given.lengths set × Does set output line)

-- ---- the result of `compile`

-- 0, and `text` maps the program that was compiled with this stack to the output; or 1, and the line of a fault for which the set
-- may be refused
abbrev pub CompiledWith : ℕ → (Built → List ℕ) → List ℕ → ℕ → Files → List ℕ → List ℕ → Type 0
CompiledWith stack text name status set output line =
    ((status ≡ 0) × (line ≡ []) × ((built : Built) × IsMade stack set name built × (output ≡ text built)))
    ⊎ ((status ≡ 1) × (output ≡ []) × ((fault : Fault) × IsRefused stack set name fault × IsLineOf fault line))
    ⊎ Wants status output line

-- the same with the usual stack
abbrev pub Compiled : (Built → List ℕ) → List ℕ → ℕ → Files → List ℕ → List ℕ → Type 0
Compiled = CompiledWith usual_stack

-- the stack has such a size, and this was done; or it has not: then 256, and nothing
abbrev pub WithStack : ℕ → ℕ → (List ℕ → List ℕ → Type 0) → List ℕ → List ℕ → Type 0
WithStack stack status Does output line =
    (IsStackSize stack × Does output line) ⊎ ((IsStackSize stack → ⊥) × (status ≡ 256) × (output ≡ []) × (line ≡ []))

-- the executable file
abbrev pub file_text : Built → List ℕ
file_text built = built.elf.items

-- a function's name, the bytes of its frame, and its weight
abbrev pub entry_text : List ℕ × ℕ × ℕ → List ℕ
entry_text e = e.0 ++ codes " " ++ decimal e.1 ++ codes " " ++ decimal e.2 ++ codes "\n"

abbrev pub entries_text : List (List ℕ × ℕ × ℕ) → List ℕ
entries_text [] = []
entries_text (e ∷ rest) = entry_text e ++ entries_text rest

-- a line for each function
abbrev pub frames_text : Built → List ℕ
frames_text built = entries_text (frames_of built)

-- ---- the effect of `perform`

-- all of the input is left, and nothing was put
abbrev pub fresh : List ℕ → PortView
fresh input = record { input = Some input; output = Some []; failures = 0 }

-- a port over memory refuses only when out of memory
abbrev pub for_memory : PortFault → Type 0
for_memory fault = fault ≡ port_fault.Memory

-- the output is the text written where all of it was written, and else there is none
abbrev pub whole : ℕ → List ℕ → List ℕ
whole status written = if status == 0 then written else []

-- the command was carried out, and the text that it wrote is the output
abbrev pub Writes : Cmd → List ℕ → ℕ → Files → List ℕ → List ℕ → Type 0
Writes command name status set output line =
    (written : List ℕ) × ((after : MemoryView) × Performs usual_stack command set name [] for_memory (fresh []) (port_of after) (said written) (said line) status × (output ≡ whole status written))

-- the command was carried out over this input, and the bytes that it put are the output; or there was no memory for the input
abbrev pub Puts : Cmd → List ℕ → List ℕ → List ℕ → ℕ → Files → List ℕ → List ℕ → Type 0
Puts command name file input status set output line =
    ((written : List ℕ) × ((after : MemoryView) × Performs usual_stack command set name file for_memory (fresh input) (port_of after) (said written) (said line) status × (output ≡ after.output)))
    ⊎ Wants status output line

-- ---- the version

abbrev pub version : List ℕ
version = codes "zikorape 1.0"
