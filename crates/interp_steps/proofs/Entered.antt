-- Nodes that are entered.
use Rattle.std.proofs.Common.{◌≡◌, sym, ap}
use Rattle.std.specs.Prelude.{Result}
use Rattle.interp_store.specs.declared.stop.Stop.{Stop}
use Rattle.interp_store.specs.declared.machine.Machine.{Machine}
use Rattle.interp_store.specs.declared.frames.Step.{Step}
use Rattle.interp_store.specs.layer.Frames as on
use Rattle.interp_store.specs.layer.Steps.{entered}
use Rattle.interp_store.specs.layer.Agrees.{Takes}
use Rattle.interp_store.proofs.Taken.{takes_as}

-- equal nodes take the same steps
pub node_as : (whole n : on.Node) (old new : Machine) (r : Result Step Stop) → whole ≡ n →
    Takes (λ p s. entered p n s) old r new → Takes (λ p s. entered p whole s) old r new
node_as whole n old new r e h =
    takes_as old new r (λ p s. entered p whole s) (λ p s. entered p n s) (λ p s. ap (λ n. entered p n s) (sym e)) h
