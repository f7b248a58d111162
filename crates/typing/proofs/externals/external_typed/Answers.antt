use Rattle.std.proofs.Common.{◌≡◌, OnOk, IfErr, sym, ap, subst}
use Rattle.tree.specs.View.{external_of}
use Rattle.typing_spec.specs.Verdict.{fine}
use Rattle.typing_spec.specs.Units.{external_typed}
use Rattle.typing_expressions.specs.Refused.{Tells}
use Rattle.typing_scopes.specs.Scopes.{with_texts}
use Rattle.typing_units.specs.Views.{built_of}
use Rattle.typing.proofs.externals.external_typed.Goals as goal

pub returns-in-Function-clause-ok : goal.returns-in-Function-clause-ok
returns-in-Function-clause-ok c =
    subst (λ k. OnOk c.function_typed.result (external_typed (built_of c.args.stack (with_texts c.args.names.now c.args.scope.now) c.args.functions.now.items c.args.initial.now.items) k ≡ fine (built_of c.args.stack (with_texts c.args.names.now c.function_typed.new.scope) c.function_typed.new.functions.items c.function_typed.new.initial.items)))
    (sym (ap external_of c.in-Function.is)) c.function_typed.ensures.ok

pub returns-in-Function-clause-err : goal.returns-in-Function-clause-err
returns-in-Function-clause-err c =
    subst (λ k. IfErr c.function_typed.result (λ r. Tells r (external_typed (built_of c.args.stack (with_texts c.args.names.now c.args.scope.now) c.args.functions.now.items c.args.initial.now.items) k))) (sym (ap external_of c.in-Function.is)) c.function_typed.ensures.err

pub returns-in-Declaration-clause-ok : goal.returns-in-Declaration-clause-ok
returns-in-Declaration-clause-ok c =
    subst (λ k. OnOk c.external_declaration.result (external_typed (built_of c.args.stack (with_texts c.args.names.now c.args.scope.now) c.args.functions.now.items c.args.initial.now.items) k ≡ fine (built_of c.args.stack (with_texts c.args.names.now c.external_declaration.new.scope) c.args.functions.now.items c.external_declaration.new.initial.items)))
    (sym (ap external_of c.in-Declaration.is)) (c.external_declaration.ensures.ok c.args.stack c.args.functions.now.items)

pub returns-in-Declaration-clause-err : goal.returns-in-Declaration-clause-err
returns-in-Declaration-clause-err c =
    subst (λ k. IfErr c.external_declaration.result (λ r. Tells r (external_typed (built_of c.args.stack (with_texts c.args.names.now c.args.scope.now) c.args.functions.now.items c.args.initial.now.items) k))) (sym (ap external_of c.in-Declaration.is)) (c.external_declaration.ensures.err c.args.stack c.args.functions.now.items)
