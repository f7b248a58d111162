-- The view that a contract has of a port over a reader and a writer.
use Rattle.std.specs.Prelude.{ℕ, List, Option, Bool}
use Rattle.io_ports.specs.Port.{PortView}

-- the input left and the output so far, where they are known, the failures, and whether output was refused when it was flushed
pub record StreamsView : Type 0 where
  pub input : Option (List ℕ)
  pub output : Option (List ℕ)
  pub failures : ℕ
  pub late : Bool

abbrev pub port_of : StreamsView → PortView
port_of s = record { input = s.input; output = s.output; failures = s.failures }
