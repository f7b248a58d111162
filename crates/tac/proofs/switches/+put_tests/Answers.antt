use Rattle.std.proofs.Common.{◌≡◌, Some, map, ap, rules, ◌∙◌, w64, to_z, of_z}
use Rattle.std.proofs.Math.Facts.{to_z-of_z}
use Rattle.csem.specs.Statements.{labels_at}
use Rattle.typed_ast.specs.View.{statement_of, statements_of}
use Rattle.lower_ops.specs.layer.Parts.{plus}
use Rattle.tac.specs.inside.Scopes.{program_in, function_in}
use Rattle.tac.specs.inside.Sizes.{statement_size}
use Rattle.tac.specs.inside.Places.{one_label}
use Rattle.tac.proofs.Placed.{tests_case}
use Rattle.tac.proofs.switches.+put_tests.Goals as goal

pub returns-in_ok-put_tests-in-Some-Some : goal.returns-in_ok-put_tests-in-Some-Some
returns-in_ok-put_tests-in-Some-Some t c =
    let x = statement_of c.in-Some.statement.now in
    let more = statements_of (map statement_of c.in-Some.more.now) in
    let v = c.in-Some-Some.value in
    let next : c.plus-next.result ≡ plus c.args.at (statement_size (program_in c.args.scope.now) (function_in c.args.scope.now) x) = c.plus-next.ensures ∙ ap (λ n. plus c.args.at n) c.statement_size.ensures in
    let label : labels_at x ≡ one_label (Some (Some v)) = search rules in
    let same : to_z w64 (of_z w64 v) ≡ v = search (rules, to_z-of_z) in
    rw c.in-Some.ensures.cases.0 (tests_case (program_in c.args.scope.now) (function_in c.args.scope.now) c.args.operand.now x more c.args.at c.plus-next.result c.args.other next v label
    (rw (c.branch-operand.ensures, c.word_of.ensures, same) at c.in_ok-put-in-Some-Some.ensures) c.in_ok-put_tests-in-Some-Some.ensures)
