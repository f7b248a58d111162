use Rattle.std.proofs.Common.{sym, ap, ◌∙◌, subst}
use Rattle.tree.specs.View.{tree_of}
use Rattle.typed_ast.specs.View.{initialiser_of}
use Rattle.typing_spec.specs.Verdict.{fine, then_check}
use Rattle.typing_spec.specs.Program as program
use Rattle.typing_spec.specs.Initialisers as typed
use Rattle.typing_expressions.specs.Numbered.{numbered}
use Rattle.typing_expressions.specs.Refused.{Tells}
use Rattle.typing_expressions.proofs.Verdicts.{tells_then}
use Rattle.decls_initialisers.proofs.Rules.{braced_ok, more_parts, only_part, only_count}
use Rattle.decls_initialisers.proofs.parts.number_in_braces.Goals as goal

pub returns-then-not-is_empty-clause-err : goal.returns-then-not-is_empty-clause-err
returns-then-not-is_empty-clause-err c =
    more_parts c.broken-then-not-is_empty.result (numbered c.args.names.now c.args.literals.now c.args.scope.now) c.args.pos c.args.element c.args.parts.now c.in-Some.first.now c.in-Some.rest.now c.in-One.e
    c.in-Some.ensures.cases.0 c.in-One.is (sym c.is_empty.ensures ∙ c.if-not-is_empty.true) c.broken-then-not-is_empty.ensures

pub returns-in-Ok-clause-ok : goal.returns-in-Ok-clause-ok
returns-in-Ok-clause-ok c =
    braced_ok c.in_braces.result _ (initialiser_of c.in-Ok.inner)
    (only_part (numbered c.args.names.now c.args.literals.now c.args.scope.now) c.args.pos c.args.element c.args.parts.now c.in-Some.first.now c.in-Some.rest.now c.in-One.e c.in-Some.ensures.cases.0 c.in-One.is (sym c.is_empty.ensures ∙ c.if-not-is_empty.false)
    ∙ ap (λ v. then_check v (λ i. fine (program.in_braces i))) c.in-Ok.ensures.ok)
    c.in_braces.ensures.ok

pub returns-in-Ok-clause-count : goal.returns-in-Ok-clause-count
returns-in-Ok-clause-count c =
    only_count c.in_braces.result c.args.literals.now c.number_from.new.literals c.args.parts.now c.in-Some.first.now c.in-Some.rest.now c.in-One.e c.in-Some.ensures.cases.0 c.in-One.is (sym c.is_empty.ensures ∙ c.if-not-is_empty.false) c.in-Ok.ensures.count

pub returns-in-Err-clause-err : goal.returns-in-Err-clause-err
returns-in-Err-clause-err c =
    subst (λ v. Tells c.in-Err.refusal v)
    (sym (only_part (numbered c.args.names.now c.args.literals.now c.args.scope.now) c.args.pos c.args.element c.args.parts.now c.in-Some.first.now c.in-Some.rest.now c.in-One.e c.in-Some.ensures.cases.0 c.in-One.is (sym c.is_empty.ensures ∙ c.if-not-is_empty.false)))
    (tells_then c.in-Err.refusal (typed.number_from (numbered c.args.names.now c.args.literals.now c.args.scope.now) c.args.element (tree_of c.in-One.e)) (λ i. fine (program.in_braces i)) c.in-Err.ensures.err)
