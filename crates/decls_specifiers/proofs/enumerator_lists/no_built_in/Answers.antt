use Rattle.std.proofs.Common.{◌≡◌, OnOk, IfErr, subst, sym, ◌∙◌}
use Rattle.typing_spec.specs.Verdict.{fine}
use Rattle.typing_expressions.specs.Refused.{IsOf}
use Rattle.typing_scopes.specs.Scopes.{with_texts}
use Rattle.decls_specifiers.specs.inside.Lists.{as_enumerator}
use Rattle.decls_specifiers.proofs.Enumerators.{at_file}
use Rattle.decls_specifiers.proofs.enumerator_lists.no_built_in.Goals as goal

pub returns-clause-ok : goal.returns-clause-ok
returns-clause-ok c =
    subst (λ o. OnOk c.as_built_in.result (as_enumerator c.args.pos o ≡ fine tt))
    (c.built_in.ensures c.args.scope.now ∙ at_file (with_texts c.args.names.now c.args.scope.now) c.args.name (sym c.level.ensures ∙ c.if-level-ne0.false)) c.as_built_in.ensures.ok

pub returns-clause-err : goal.returns-clause-err
returns-clause-err c =
    subst (λ o. IfErr c.as_built_in.result (λ r. IsOf r (as_enumerator c.args.pos o)))
    (c.built_in.ensures c.args.scope.now ∙ at_file (with_texts c.args.names.now c.args.scope.now) c.args.name (sym c.level.ensures ∙ c.if-level-ne0.false)) c.as_built_in.ensures.err
