use Rattle.std.proofs.Common.{◌≡◌, ◌≤◌, ◌<◌, ◌+◌, ◌-◌, ◌^◌, min, map, ap, sym, ◌∙◌, arith}
use Rattle.std.proofs.lemmas.List.{length-map}
use Rattle.tree.specs.View as tree
use Rattle.tree.specs.Counts.{function_nodes}
use Rattle.typed_ast.specs.View.{object_type_of, parameter_type_of, function_type_of, statement_of, statements_of}
use Rattle.typing_spec.specs.Units.{weight, numbers_in, bytes_of_references, bytes_of_objects}
use Rattle.typing_units.proofs.Bytes.{light, weight_exact, nodes_exact}
use Rattle.typing_units.proofs.Wholes.{function_is}
use Rattle.typing_units.proofs.functions.function_of.Goals as goal

pub returns-clause-ok : goal.returns-clause-ok
returns-clause-ok c = λ all e f.
    let t = tree.function_of c.args.function.now in
    let ps = map parameter_type_of c.args.function_type.parameters.items in
    let os = map object_type_of c.args.objects.items in
    let w : c.weight-weight.result ≡ min (weight t ps os) (2 ^ 32) = c.weight-weight.ensures ∙ ap (λ l. min (weight t (map parameter_type_of l) (map object_type_of c.deref-2.result.now)) (2 ^ 32)) c.deref.ensures.value ∙ ap (λ l. min (weight t ps (map object_type_of l)) (2 ^ 32)) c.deref-2.ensures.value in
    let lt : c.args.stack < 2 ^ 32 = omega (arith, c.ranges.stack) in
    let small : weight t ps os ≤ c.args.stack = light c.args.stack (weight t ps os) t.at (c.in-Ok.ensures.ok (weight t ps os) w) in
    function_is t (function_type_of c.args.function_type) all os (statement_of c.block.result) (statements_of (map statement_of c.args.statements.items)) c.numbers_in-numbers.result c.saturating_sub-others.result c.nodes.result c.weight-weight.result e f c.block.ensures
    (c.numbers_in-numbers.ensures ∙ ap (λ l. numbers_in (map parameter_type_of l)) c.deref-3.ensures.value)
    (c.saturating_sub-others.ensures ∙ ap (λ k. k - c.numbers_in-numbers.result) (c.len.ensures ∙ sym (length-map c.args.objects.items object_type_of ∙ omega (arith, c.args.objects.ok.0))))
    (nodes_exact c.args.stack c.nodes.result (function_nodes t) (bytes_of_references ps + bytes_of_objects os) lt c.nodes.ensures small) (weight_exact c.args.stack c.weight-weight.result (weight t ps os) lt w small)
