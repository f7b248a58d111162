-- The view that a contract has of a port over memory.
use Rattle.std.specs.Prelude.{ℕ, List, Some}
use Rattle.io_ports.specs.Port.{PortView}

-- the input left, the output so far, how many further bytes it can take without an allocation, and the failures
pub record MemoryView : Type 0 where
  pub input : List ℕ
  pub output : List ℕ
  pub room : ℕ
  pub failures : ℕ

-- it shows both
abbrev pub port_of : MemoryView → PortView
port_of m = record { input = Some m.input; output = Some m.output; failures = m.failures }
