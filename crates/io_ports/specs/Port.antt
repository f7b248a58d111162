-- The effect of a call of a port on the input left, the output so far and the count of failures.
use Rattle.std.specs.Prelude.{◌≡◌, ℕ, ◌+◌, ◌-◌, ◌^◌, List, [], ◌∷◌, Option, Some, None, min}
use Rattle.std.specs.Io.KnownBytes.{Keeps, Appends, Consumes, IsAtEnd}
use Rattle.srcset.specs.declared.code.Code.{Code}
use Rattle.srcset.specs.declared.code.Code.TheVariants as code
use Rattle.io_ports.specs.declared.port.PortFault.{PortFault}
use Rattle.io_ports.specs.declared.port.PortFault.TheVariants.{Memory, Read, Write}

-- the view that a contract has of a port. The input left and the output so far are known or not; the count always is.
pub record PortView : Type 0 where
  pub input : Option (List ℕ)
  pub output : Option (List ℕ)
  pub failures : ℕ

-- a count of 64 bits that one was added to; the greatest stays, and counts as risen
abbrev pub Rises : ℕ → ℕ → Type 0
Rises old new = new ≡ min (old + 1) (2 ^ 64 - 1)

-- a refused call: the input and the output stay, where they are known, and one failure is counted
pub record IsRefused (old new : PortView) : Type 0 where
  pub input_stays : Keeps old.input new.input
  pub output_stays : Keeps old.output new.output
  pub counted : Rises old.failures new.failures

-- the first byte left, or none at the end
abbrev pub GivesByte : Option (List ℕ) → Option (List ℕ) → Option ℕ → Type 0
GivesByte old new (Some byte) = Consumes old new (byte ∷ [])
GivesByte old new None = IsAtEnd old × Keeps old new

-- an answered read of one byte
pub record Gets (old new : PortView) (byte : Option ℕ) : Type 0 where
  pub input_moves : GivesByte old.input new.input byte
  pub output_stays : Keeps old.output new.output
  pub not_counted : new.failures ≡ old.failures

-- an answered write of one byte
pub record Puts (old new : PortView) (byte : ℕ) : Type 0 where
  pub input_stays : Keeps old.input new.input
  pub output_grows : Appends old.output new.output (byte ∷ [])
  pub not_counted : new.failures ≡ old.failures

-- a successful flush: the input and the output stay, where they are known, and no failure is counted
pub record Flushes (old new : PortView) : Type 0 where
  pub input_stays : Keeps old.input new.input
  pub output_stays : Keeps old.output new.output
  pub not_counted : new.failures ≡ old.failures

abbrev pub code_of : PortFault → Code
code_of Memory = code.OutOfMemory
code_of Read = code.CannotRead
code_of Write = code.CannotWrite
