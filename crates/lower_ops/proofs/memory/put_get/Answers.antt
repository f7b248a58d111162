use Rattle.std.proofs.Common.{ap, ◌∙◌}
use Rattle.lower_ops.specs.layer.Emitted as emitted
use Rattle.lower_ops.proofs.Parts.{two}
use Rattle.lower_ops.proofs.Operated.{one_as}
use Rattle.lower_ops.proofs.memory.put_get.Goals as goal

pub returns : goal.returns
returns c = two (one_as (c.load_from.ensures ∙ ap (λ g. emitted.load_from c.args.ty g c.args.spot) c.target_of.ensures) c.in_ok-put.ensures) c.in_ok-put_follow.ensures
