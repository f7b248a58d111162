use Rattle.std.proofs.Common.{ap, ◌∙◌, arith}
use Rattle.typed_ast.specs.View.{object_type_of}
use Rattle.lower_ops.specs.layer.Rows.{counted}
use Rattle.lower_ops.proofs.Rows.{unknown_some}
use Rattle.lower_ops.proofs.row_sizes.unknown_size.Goals as goal

pub returns : goal.returns
returns c =
    let e = unknown_some c.args.depth (object_type_of c.args.object.now) (omega (arith, c.if-depth-eq0.false)) in
    c.size_in.ensures ∙ ap counted e
