-- The fault of a file.
use Rattle.std.specs.Prelude.{List, Result, Ok, Err}
use Rattle.srcset.specs.declared.fault.Fault.{Fault}
use Rattle.srcset.specs.declared.refusal.Refusal.{Refusal}
use Rattle.srcset.specs.Fault.{IsMemoryFault}
use Rattle.srcset.specs.NameTable.{Texts}
use Rattle.srcset.specs.Refusal.{IsFaultOfRefusal}
use Rattle.phases.specs.Token.{Token}

-- the fault that a file has, or out of memory
abbrev pub IsScanFault : Fault → Texts → Result (List (List Token)) Refusal → Type 0
IsScanFault fault texts (Ok lines) = IsMemoryFault fault
IsScanFault fault texts (Err refusal) = IsFaultOfRefusal fault texts refusal
