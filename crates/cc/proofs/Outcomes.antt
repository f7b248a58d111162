-- Where a run of the machine begins, and why a file is not loaded.
use Rattle.std.proofs.Common.{◌≡◌, ℕ, List, Some, inl, inr, subst}
use Rattle.rv32.specs.Step.{Machine}
use Rattle.srcset.specs.declared.fault.Fault.{Fault}
use Rattle.loader.specs.File.{Image}
use Rattle.loader.specs.declared.fault.LoadFault.{LoadFault}
use Rattle.loader.specs.declared.fault.LoadFault.TheVariants.{Memory}
use Rattle.loader.specs.Loading.{FailsToLoad}
use Rattle.io_ports.specs.Port.{PortView}
use Rattle.sim.specs.Runs.{start_of, start_world}
use Rattle.sim.specs.Meets.{At}
use Rattle.io_ports.specs.declared.port.PortFault.{PortFault}
use Rattle.io_ports.specs.declared.port.PortFault.TheVariants as port_fault
use Rattle.cc.specs.declared.stopping.Stop.{Stop}
use Rattle.cc.specs.inside.Stops.{IsToldAs, port_stop, load_stop}
use Rattle.cc.specs.Performed.{FailsLoad}
use Rattle.cc.specs.Transfer.{TellsPort}
use Rattle.cc.proofs.Transfers.{appends_none}

pub begins : (old : PortView) (image : Image) (input : List ℕ) (m : Machine) → m ≡ start_of image → old.input ≡ Some input → At old.output (start_world image input) m old
begins old image input m e i = record { machine_is = e; input_is = i; output_is = appends_none old.output }

load_told : (file name : List ℕ) (why : LoadFault) (fault : Fault) → FailsToLoad file why → IsToldAs name (load_stop why) fault → FailsLoad file name fault
load_told file name Memory fault (inl e) told = inr (e.1, told)
load_told file name Memory fault (inr e) told = inl (Memory, e, inr told)
load_told file name why fault (inl e) told = let none : why ≡ Memory = e.0 in cc
load_told file name why fault (inr e) told = inl (why, e, told)

pub load_fails : (file name : List ℕ) (why : LoadFault) (stop : Stop) (fault : Fault) → FailsToLoad file why → stop ≡ load_stop why → IsToldAs name stop fault → FailsLoad file name fault
load_fails file name why stop fault o is told = load_told file name why fault o (subst (λ s. IsToldAs name s fault) is told)

-- the fault that reports a refusal of the port
pub port_fails : (output : List ℕ) (refusal : PortFault) (stop : Stop) (fault : Fault) → stop ≡ port_stop refusal → IsToldAs output stop fault
    → TellsPort refusal output fault
port_fails output port_fault.Memory stop fault is told = subst (λ s. IsToldAs output s fault) is told
port_fails output port_fault.Read stop fault is told = subst (λ s. IsToldAs output s fault) is told
port_fails output port_fault.Write stop fault is told = subst (λ s. IsToldAs output s fault) is told
