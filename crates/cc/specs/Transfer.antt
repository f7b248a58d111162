-- The effect of a call that puts many bytes on its port, and the fault that reports a refusal of the port.
use Rattle.std.specs.Prelude.{◌≡◌, ℕ, ◌<◌, List, take, length}
use Rattle.std.specs.Io.KnownBytes.{Keeps, Appends}
use Rattle.srcset.specs.declared.fault.Fault.{Fault}
use Rattle.srcset.specs.declared.code.Code.TheVariants.{CannotRead, CannotWrite}
use Rattle.srcset.specs.Fault.{IsFaultOrMemory, IsMemoryFault}
use Rattle.io_ports.specs.Port.{PortView, Rises}
use Rattle.io_ports.specs.declared.port.PortFault.{PortFault}
use Rattle.io_ports.specs.declared.port.PortFault.TheVariants as port_fault

-- all bytes were put
pub record PutsAll (old new : PortView) (bytes : List ℕ) : Type 0 where
  pub input_stays : Keeps old.input new.input
  pub output_grows : Appends old.output new.output bytes
  pub not_counted : new.failures ≡ old.failures

-- a beginning was put, and one put was refused
pub record PutsSome (old new : PortView) (bytes : List ℕ) (count : ℕ) : Type 0 where
  pub fewer : count < length bytes
  pub input_stays : Keeps old.input new.input
  pub output_grows : Appends old.output new.output (take count bytes)
  pub counted : Rises old.failures new.failures

-- the fault of a file of this name for each fault of the port
abbrev pub TellsPort : PortFault → List ℕ → Fault → Type 0
TellsPort port_fault.Memory name fault = IsMemoryFault fault
TellsPort port_fault.Read name fault = IsFaultOrMemory fault CannotRead name 0
TellsPort port_fault.Write name fault = IsFaultOrMemory fault CannotWrite name 0

-- a beginning of the file of this name was put, and the port refused the next byte, as this fault reports. `refuses` holds of the fault that the port refused
-- with
pub record WritesSome (name bytes : List ℕ) (refuses : PortFault → Type 0) (old new : PortView) (fault : Fault) : Type 0 where
  pub count : ℕ
  pub puts : PutsSome old new bytes count
  pub refusal : PortFault
  pub refused_with : refuses refusal
  pub told : TellsPort refusal name fault
