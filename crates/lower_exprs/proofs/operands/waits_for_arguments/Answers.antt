use Rattle.std.proofs.Common.{ap, map, ◌∙◌}
use Rattle.typed_ast.specs.View.{value_of, arguments_of, argument_of}
use Rattle.lower_correct.specs.Values as values
use Rattle.lower_exprs.proofs.operands.waits_for_arguments.Goals as goal

pub returns : goal.returns
returns c =
    let e = value_of c.args.e.now in
    let w = values.arguments_write (arguments_of (map argument_of c.args.others.now)) in
    c.waits.ensures w c.is_written_by_arguments.ensures ∙ ap (λ b. values.waits_in e w b c.args.temporary c.args.slot) (c.call.ensures c.args.others.now c.requires)
