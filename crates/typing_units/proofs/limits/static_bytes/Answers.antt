use Rattle.typing_units.specs.Views.{unit_scope}
use Rattle.typing_units.proofs.limits.static_bytes.Goals as goal

pub returns : goal.returns
returns c = λ s. c.sum.ensures _ _ c.bytes_of_statics.ensures (c.bytes_of_literals.ensures (unit_scope c.args.names.now c.args.literals.now c.args.statics.now s))
