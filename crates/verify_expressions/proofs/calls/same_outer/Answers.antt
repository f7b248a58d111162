use Rattle.std.proofs.Common.{ap, sym, ◌∙◌}
use Rattle.verify_expressions.specs.Views.{shapes_in}
use Rattle.verify_expressions.proofs.calls.same_outer.Goals as goal

pub returns : goal.returns
returns c = λ t. sym (ap shapes_in c.deref.ensures.value) ∙ c.same_shapes.ensures t
