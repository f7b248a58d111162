use Rattle.std.proofs.Common.{ap, sym, ◌∙◌}
use Rattle.typing_spec.specs.Nodes.{type_of_place, row_type}
use Rattle.typed_ast.specs.View.{place_of, program_of, function_of}
use Rattle.lower_ops.specs.layer.Rows.{deep_size, counted}
use Rattle.lower_ops.proofs.Held.{sees_element}
use Rattle.lower_ops.proofs.Rows.{deep_more}
use Rattle.lower_ops.proofs.Deep.{place_deeper}
use Rattle.lower_ops.proofs.row_sizes.+deep_size.Goals as goal

pub returns-in-Element : goal.returns-in-Element
returns-in-Element t c =
    let s = c.in-Element in
    let p = program_of c.args.scope.now.program.now in
    let f = function_of c.args.scope.now.function.now in
    let a = type_of_place p f (place_of c.deref.result.now) in
    let e = place_deeper c.args.scope.now.program.now c.args.scope.now.function.now (place_of c.deref.result.now) c.args.depth c.saturating_add.result c.saturating_add.ensures ∙ deep_more c.args.depth a
    ∙ ap (λ x. deep_size c.args.depth (row_type (type_of_place p f (place_of x)))) c.deref.ensures
    ∙ sym (ap (λ q. deep_size c.args.depth (type_of_place p f q)) (sees_element c.args.place.now s.field-0 s.array s.field-2 s.is)) in
    c.deep_size.ensures ∙ ap counted e
