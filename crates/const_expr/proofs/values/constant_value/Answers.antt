use Rattle.std.proofs.Common.{◌≡◌, length, ap, ◌∙◌, sym, subst, IfOk, IfErr}
use Rattle.tree.specs.View.{tree_of}
use Rattle.typing_spec.specs.Verdict.{fine}
use Rattle.typing_expressions.specs.Refused.{Tells}
use Rattle.typing_expressions.specs.Forms.{checked_of}
use Rattle.const_expr.specs.Typings.{constant_of}
use Rattle.const_expr.proofs.Wholes.{value_rule, value_form, value_typing}
use Rattle.const_expr.proofs.values.constant_value.Goals as goal

pub returns-in-Err-clause-err : goal.returns-in-Err-clause-err
returns-in-Err-clause-err c = value_form c.args.names.now c.args.scope.now (tree_of c.args.e.now) c.in-Err.refusal c.in-Err.ensures.err

pub returns-in-Ok-expression-clause-ok : goal.returns-in-Ok-expression-clause-ok
returns-in-Ok-expression-clause-ok c =
    subst (λ v. IfOk c.constant_worth.result (λ x. v ≡ fine (constant_of x)))
    (sym (value_rule c.args.names.now c.behind-literals.result c.args.scope.now (tree_of c.args.e.now) (checked_of c.in-Ok-expression.x) (c.behind-literals.ensures ∙ ap length c.literals.ensures) c.in-Ok.ensures.ok c.in-Ok-expression.ensures.ok))
    c.constant_worth.ensures.ok

pub returns-in-Ok-expression-clause-err : goal.returns-in-Ok-expression-clause-err
returns-in-Ok-expression-clause-err c =
    subst (λ v. IfErr c.constant_worth.result (λ r. Tells r v))
    (sym (value_rule c.args.names.now c.behind-literals.result c.args.scope.now (tree_of c.args.e.now) (checked_of c.in-Ok-expression.x) (c.behind-literals.ensures ∙ ap length c.literals.ensures) c.in-Ok.ensures.ok c.in-Ok-expression.ensures.ok))
    c.constant_worth.ensures.err

pub returns-clause-err : goal.returns-clause-err
returns-clause-err c =
    value_typing c.args.names.now c.behind-literals.result c.args.scope.now (tree_of c.args.e.now) c.in-Err-expression.refusal (c.behind-literals.ensures ∙ ap length c.literals.ensures) c.in-Ok.ensures.ok c.in-Err-expression.ensures.err
