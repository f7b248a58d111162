-- The view of a port whose input is given while the run goes on.
use Rattle.std.specs.Prelude.{◌≡◌, ◌≤◌, [], Some, false, ⊤, drop, vec_len}
use Rattle.io_ports.specs.Port.{PortView}
use Rattle.io_ports.specs.declared.port.PortFault.{PortFault}
use Rattle.io_ports.specs.declared.port.PortFault.TheVariants.{Memory, Read, Write}
use Rattle.machine_kept.specs.declared.feed.Feed.{Feed}

-- the input given and not read, and the output
abbrev pub port_of : Feed → PortView
port_of p = record { input = Some (drop p.next p.input.items); output = Some p.output.items; failures = p.failures }

-- it refuses a read where the input is used up and not closed, and nothing else except when out of memory
abbrev pub Lacks : Feed → PortFault → Type 0
Lacks p Memory = ⊤
Lacks p Read = (vec_len p.input ≤ p.next) × (p.closed ≡ false)
Lacks p Write = ⊥

-- no input, none closed, and no output
pub record IsFresh (p : Feed) : Type 0 where
  pub input_is : p.input.items ≡ []
  pub output_is : p.output.items ≡ []
  pub rest_is : p ≡ record { input = p.input; next = 0; closed = false; output = p.output; failures = 0 }
