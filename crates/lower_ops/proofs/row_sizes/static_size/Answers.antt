use Rattle.std.proofs.Common.{refl, ap, ◌∙◌}
use Rattle.std.proofs.lemmas.Option.{slice_get_past, slice_get_read}
use Rattle.typing_spec.specs.Nodes.{static_type}
use Rattle.typed_ast.specs.View.{static_of}
use Rattle.lower_ops.specs.layer.Rows.{counted}
use Rattle.lower_ops.proofs.Rows.{looked_none, looked_some}
use Rattle.lower_ops.proofs.row_sizes.static_size.Goals as goal

pub returns-in-None : goal.returns-in-None
returns-in-None c = ap counted (looked_none static_type static_of c.args.statics.now c.args.number c.args.depth refl (slice_get_past c.args.statics.now c.args.number c.in-None.ensures.lookup.3))

pub returns-in-Some : goal.returns-in-Some
returns-in-Some c =
    let x = c.in-Some.object.now in
    let e = looked_some static_type static_of c.args.statics.now c.args.number c.args.depth x (slice_get_read c.args.statics.now _ c.args.number x refl c.in-Some.ensures.lookup.3.0 c.in-Some.ensures.lookup.1) in
    c.size_in.ensures ∙ ap counted e
