-- The start of a run.
use Rattle.std.proofs.Common.{◌≡◌, ℕ, List, [], Some, ap}
use Rattle.rv32.specs.Step.{Machine}
use Rattle.loader.specs.File.{Image}
use Rattle.io_ports.specs.Memory.{MemoryView, port_of}
use Rattle.sim.specs.Runs.{start_of, start_world}
use Rattle.sim.specs.Meets.{At}

pub at_start : (image : Image) (input : List ℕ) (m : Machine) (port : MemoryView) → m ≡ start_of image → port ≡ record { input = input; output = []; room = 0; failures = 0 } → At (Some []) (start_world image input) m (port_of port)
at_start image input m port e f = record {
  machine_is = e;
  input_is = ap (λ (p : MemoryView). Some p.input) f;
  output_is = ap (λ (p : MemoryView). p.output) f;
}
