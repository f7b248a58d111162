use Rattle.std.proofs.Common.{◌∙◌}
use Rattle.typing_units.proofs.Bytes.{weight_within}
use Rattle.typing_units.proofs.weights.weight.Goals as goal

pub returns : goal.returns
returns c =
    c.min.ensures
    ∙ weight_within _ c.narrowed.result _ c.sum-bytes.result c.weight-weight.result (c.narrowed.ensures _ c.nodes.ensures) (c.sum-bytes.ensures _ _ c.bytes_of_references.ensures c.bytes_of_objects.ensures) c.weight-weight.ensures
