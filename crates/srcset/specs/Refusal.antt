-- How an error inside the compiler becomes a fault.
use Rattle.std.specs.Prelude.{◌⊎◌}
use Rattle.srcset.specs.Fault.{IsFaultOrMemory, IsFaultWith, IsMemoryFault}
use Rattle.srcset.specs.NameTable.{Texts, file_name_of, shown_text}
use Rattle.srcset.specs.declared.fault.Fault.{Fault}
use Rattle.srcset.specs.declared.refusal.Refusal.{Refusal}
use Rattle.srcset.specs.declared.refusal.Refusal.TheVariants.{Memory, At, Told}

-- the fault that corresponds to the error, where these texts name the files; or out of memory
abbrev pub IsFaultOfRefusal : Fault → Texts → Refusal → Type 0
IsFaultOfRefusal fault texts Memory = IsMemoryFault fault
IsFaultOfRefusal fault texts (At code pos) = IsFaultOrMemory fault code (file_name_of texts pos.file) pos.line
IsFaultOfRefusal fault texts (Told code pos text) =
    IsFaultWith fault code (file_name_of texts pos.file) pos.line (shown_text texts text) ⊎ IsMemoryFault fault
