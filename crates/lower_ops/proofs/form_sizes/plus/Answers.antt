use Rattle.std.proofs.Common.{arith}
use Rattle.lower_ops.specs.layer.Parts.{plus}
use Rattle.lower_ops.proofs.form_sizes.plus.Goals as goal

pub returns : goal.returns
unfolding plus
returns c = grind arith
