use Rattle.std.proofs.Common.{ap, ◌∙◌}
use Rattle.typed_ast.specs.View.{value_of}
use Rattle.lower_correct.specs.Values as values
use Rattle.lower_exprs.proofs.operands.waits_for.Goals as goal

pub returns : goal.returns
returns c =
    let e = value_of c.args.e.now in
    let w = values.writes (value_of c.args.other.now) in
    c.waits.ensures w c.is_written_by.ensures ∙ ap (λ b. values.waits_in e w b c.args.temporary c.args.slot) c.has_calls.ensures
