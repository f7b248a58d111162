use Rattle.std.proofs.Common.{ap, ◌∙◌}
use Rattle.typed_ast.specs.View.{value_of}
use Rattle.lower_correct.specs.Bodies as bodies
use Rattle.lower_correct.specs.Values as values
use Rattle.lower_exprs.proofs.operands.waits_for_objects.Goals as goal

pub returns : goal.returns
returns c =
    let w = bodies.is_within c.args.first c.args.count in
    c.waits.ensures w c.rests_within.ensures ∙ ap (λ b. values.waits_in (value_of c.args.e.now) w b 0 0) c.has_objects.ensures
