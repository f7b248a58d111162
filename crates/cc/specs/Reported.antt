-- The messages of the program on standard error.
use Rattle.std.specs.Prelude.{◌≡◌, ◌⊎◌, ℕ, ◌-◌, ◌^◌, List, ◌++◌, ◌∷◌, Option, codes, decimal, true, false, []}
use Rattle.std.specs.Fmt.{digits, padded_integral, format_spec}
use Rattle.srcset.specs.declared.fault.Fault.{Fault}
use Rattle.srcset.specs.Codes.{number_of}
use Rattle.srcset.specs.Fault.{fault_line}
use Rattle.srcset.specs.NameTable.{Texts, file_name_of}
use Rattle.srcset.specs.Writing.{TakesBeginning}
use Rattle.ctypes.specs.declared.operators.Undef.{Undef}
use Rattle.ctypes.specs.Arithmetic as arithmetic
use Rattle.rv32.specs.declared.state.Cause.{Cause}
use Rattle.rv32.specs.declared.state.Cause.TheVariants as cause
use Rattle.io_ports.specs.Port.{code_of}
use Rattle.io_ports.specs.declared.port.PortFault.{PortFault}
use Rattle.sim.specs.declared.machine.Outcome.{Outcome}
use Rattle.sim.specs.declared.machine.Outcome.TheVariants as outcome
use Rattle.cabs.specs.declared.outcome.Run.{Run}
use Rattle.cabs.specs.declared.outcome.Run.TheVariants as run

-- ---- the lines

abbrev pub fault_text : Fault → List ℕ
fault_text fault = fault_line fault ++ codes "\n"

abbrev pub memory_text : List ℕ
memory_text = codes "cc: 801 out of memory\n"

abbrev pub budget_text : List ℕ
budget_text = codes "cc: budget used\n"

abbrev pub cause_name : Cause → List ℕ
cause_name cause.Illegal = codes "Illegal"
cause_name cause.FetchFault = codes "FetchFault"
cause_name cause.Target = codes "Target"
cause_name cause.Misaligned = codes "Misaligned"
cause_name cause.LoadFault = codes "LoadFault"
cause_name cause.StoreFault = codes "StoreFault"
cause_name cause.Break = codes "Break"
cause_name cause.BadCall = codes "BadCall"

-- eight digits to the base 16, in capitals
abbrev pub address : ℕ → List ℕ
address a = padded_integral (format_spec 32 0 4 8 (2 ^ 64 - 1)) false [] (digits 16 true a)

abbrev pub trap_text : ℕ → Cause → List ℕ
trap_text pc cause = codes "cc: trap " ++ cause_name cause ++ codes " at 0x" ++ address pc ++ codes "\n"

-- the text after the file's name
abbrev pub behind_file : (line : ℕ) → Undef → List ℕ
behind_file line act = codes ":" ++ decimal line ++ codes ": undefined U" ++ decimal (arithmetic.number_of act) ++ codes "\n"

-- undefined behaviour at a line of a file, which is named as in a fault
abbrev pub undefined_text : (file : List ℕ) → (line : ℕ) → Undef → List ℕ
undefined_text [] line act = codes "cc: undefined U" ++ decimal (arithmetic.number_of act) ++ codes "\n"
undefined_text (b ∷ bs) line act = (b ∷ bs) ++ behind_file line act

abbrev pub port_text : PortFault → List ℕ
port_text fault = codes "cc: port fault " ++ decimal (number_of (code_of fault)) ++ codes "\n"

-- ---- the message written

-- the bytes that a writer took before a call and after it, where they are known
pub record Said : Type 0 where
  pub before : Option (List ℕ)
  pub after : Option (List ℕ)

-- the text, or the beginning of it that the writer took
abbrev pub Says : Said → List ℕ → Type 0
Says said text = TakesBeginning said.before said.after text

-- nothing where a run ended by itself, and else why it did not
abbrev pub SaysOutcome : Said → Outcome → Type 0
SaysOutcome said (outcome.Ended status) = said.after ≡ said.before
SaysOutcome said outcome.Budget = Says said budget_text
SaysOutcome said (outcome.Trapped pc cause) = Says said (trap_text pc cause)
SaysOutcome said (outcome.Port fault) = Says said (port_text fault)

-- the same of a program that is interpreted, whose names have these texts
abbrev pub SaysRun : Texts → Said → Run → Type 0
SaysRun texts said (run.Ended status) = said.after ≡ said.before
SaysRun texts said (run.Undefined act at) = Says said (undefined_text (file_name_of texts at.file) at.line act)
SaysRun texts said run.TicksUsed = Says said budget_text
SaysRun texts said (run.Port fault) = Says said (port_text fault)
SaysRun texts said run.Memory = Says said memory_text
