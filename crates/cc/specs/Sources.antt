-- The effect of a call that reads a source file on its port, and why it fails.
use Rattle.std.specs.Prelude.{◌≡◌, ◌⊎◌, ℕ, suc, ◌≤◌, List, [], Option, Some, None, length}
use Rattle.std.specs.Io.KnownBytes.{Keeps, Consumes}
use Rattle.srcset.specs.Files.{max_file_bytes}
use Rattle.srcset.specs.declared.fault.Fault.{Fault}
use Rattle.srcset.specs.declared.code.Code.TheVariants.{FileSizeLimit}
use Rattle.srcset.specs.Fault.{IsFaultOrMemory, IsMemoryFault}
use Rattle.io_ports.specs.Port.{PortView, Rises}
use Rattle.io_ports.specs.declared.port.PortFault.{PortFault}
use Rattle.cc.specs.Transfer.{TellsPort}

-- these bytes were got
pub record GetsBytes (old new : PortView) (bytes : List ℕ) : Type 0 where
  pub input_moves : Consumes old.input new.input bytes
  pub output_stays : Keeps old.output new.output
  pub not_counted : new.failures ≡ old.failures

-- an input whose bytes are known was these bytes, and is at its end
abbrev pub GivesAll : Option (List ℕ) → Option (List ℕ) → List ℕ → Type 0
GivesAll None new bytes = Unit {0}
GivesAll (Some xs) None bytes = ⊥
GivesAll (Some xs) (Some ys) bytes = (xs ≡ bytes) × (ys ≡ [])

-- the file has just the bytes that the port had left, which are no more than a file may have
pub record ReadsAll (old new : PortView) (bytes : List ℕ) : Type 0 where
  pub input_given : GivesAll old.input new.input bytes
  pub output_stays : Keeps old.output new.output
  pub not_counted : new.failures ≡ old.failures
  pub few : length bytes ≤ max_file_bytes

-- the port had more left than a file may have: one more was got
pub record ReadsTooMany (name : List ℕ) (old new : PortView) (fault : Fault) : Type 0 where
  pub bytes : List ℕ
  pub gets : GetsBytes old new bytes
  pub many : length bytes ≡ suc max_file_bytes
  pub told : IsFaultOrMemory fault FileSizeLimit name 0

-- these bytes were got, and the port refused the next, as this fault reports
pub record ReadsSome (name : List ℕ) (refuses : PortFault → Type 0) (old new : PortView) (fault : Fault) : Type 0 where
  pub bytes : List ℕ
  pub few : length bytes ≤ max_file_bytes
  pub input_moves : Consumes old.input new.input bytes
  pub output_stays : Keeps old.output new.output
  pub counted : Rises old.failures new.failures
  pub refusal : PortFault
  pub refused_with : refuses refusal
  pub told : TellsPort refusal name fault

-- there was no memory for a byte that was got
pub record ReadsUnheld (old new : PortView) (fault : Fault) : Type 0 where
  pub bytes : List ℕ
  pub gets : GetsBytes old new bytes
  pub told : IsMemoryFault fault

abbrev pub FailsReading : List ℕ → (PortFault → Type 0) → PortView → PortView → Fault → Type 0
FailsReading name refuses old new fault = ReadsTooMany name old new fault ⊎ ReadsSome name refuses old new fault ⊎ ReadsUnheld old new fault
