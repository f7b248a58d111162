-- Why a command stops, before it is reported.
use Rattle.std.specs.Prelude.{◌≡◌, List, ℕ}
use Rattle.srcset.specs.Files.{Files}
use Rattle.srcset.specs.declared.fault.Fault.{Fault}
use Rattle.srcset.specs.declared.code.Code.TheVariants.{CannotRead, CannotWrite}
use Rattle.srcset.specs.Fault.{IsFaultOrMemory, IsMemoryFault}
use Rattle.loader.specs.declared.fault.LoadFault.{LoadFault}
use Rattle.loader.specs.declared.fault.LoadFault.TheVariants as load_fault
use Rattle.loader.specs.Fault.{code_of}
use Rattle.io_ports.specs.declared.port.PortFault.{PortFault}
use Rattle.io_ports.specs.declared.port.PortFault.TheVariants as port_fault
use Rattle.cc.specs.declared.stopping.Stop.{Stop}
use Rattle.cc.specs.declared.stopping.Stop.TheVariants.{Memory, At, Told}
use Rattle.cc.specs.Refused.{IsRefused}

-- the fault that reports it, where the command names this file; only the copy of the name may run out of memory
abbrev pub IsToldAs : List ℕ → Stop → Fault → Type 0
IsToldAs name Memory fault = IsMemoryFault fault
IsToldAs name (At code line) fault = IsFaultOrMemory fault code name line
IsToldAs name (Told told) fault = fault ≡ told

-- it was reported already, with such a fault
abbrev pub IsTold : (Fault → Type 0) → Stop → Type 0
IsTold P Memory = ⊥
IsTold P (At code line) = ⊥
IsTold P (Told told) = P told

-- memory ran out
abbrev pub IsMemory : Stop → Type 0
IsMemory Memory = Unit {0}
IsMemory (At code line) = ⊥
IsMemory (Told told) = IsMemoryFault told

-- each fault that reports it is one for which this main file is refused
abbrev pub Stops : (stack : ℕ) → Files → List ℕ → Stop → Type 0
Stops stack set name stop = (fault : Fault) → IsToldAs name stop fault → IsRefused stack set name fault

-- why a file was not read or not put whole, by the fault of the port
abbrev pub port_stop : PortFault → Stop
port_stop port_fault.Memory = Memory
port_stop port_fault.Read = At CannotRead 0
port_stop port_fault.Write = At CannotWrite 0

-- why a file is not loaded
abbrev pub load_stop : LoadFault → Stop
load_stop load_fault.Memory = Memory
load_stop fault = At (code_of fault) 0
