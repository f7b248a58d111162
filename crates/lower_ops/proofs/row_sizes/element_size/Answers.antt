use Rattle.std.proofs.Common.{◌∙◌}
use Rattle.lower_ops.proofs.Rows.{counted_row}
use Rattle.typing_spec.specs.Nodes.{type_of_place}
use Rattle.typed_ast.specs.View.{place_of, program_of, function_of}
use Rattle.lower_ops.proofs.row_sizes.element_size.Goals as goal

pub returns : goal.returns
returns c =
    let s = c.args.scope.now in
    let a = place_of c.args.array.now in
    c.deep_size.ensures ∙ counted_row (type_of_place (program_of s.program.now) (function_of s.function.now) a) (s.rows a)
