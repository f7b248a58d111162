use Rattle.std.proofs.Common.{ap, sym, ◌∙◌, map}
use Rattle.tree.specs.View.{specifier_of}
use Rattle.typing_spec.specs.Declarations as typed
use Rattle.typing_scopes.specs.Scopes.{with_texts}
use Rattle.decls_specifiers.proofs.Lists.{base_given}
use Rattle.decls_specifiers.proofs.plain_specifiers.base_in.Goals as goal

pub returns-in-0-clause-ok : goal.returns-in-0-clause-ok
returns-in-0-clause-ok c = λ t.
    base_given t c.args.scope.now c.args.specifiers.now.pos 0 _ c.in-Ok.list.items _ c.plain_type.result
    (sym c.in-0.is ∙ c.lists_in.ensures ∙ ap (λ l. typed.lists_in (map specifier_of l)) c.deref-2.ensures.value) (c.in-Ok.ensures.ok ∙ ap (λ l. typed.plain_of (map specifier_of l)) c.deref.ensures.value) (c.plain_type.ensures.ok t)

pub returns-in-1-clause-ok : goal.returns-in-1-clause-ok
returns-in-1-clause-ok c = λ t.
    base_given t c.args.scope.now c.args.specifiers.now.pos 1 _ c.deref-in-1.result.now _ c.enumerated_type.result
    (sym c.in-1.is ∙ c.lists_in.ensures ∙ ap (λ l. typed.lists_in (map specifier_of l)) c.deref-2.ensures.value)
    (c.deref-in-1.ensures.value ∙ c.in-Ok.ensures.ok ∙ ap (λ l. typed.plain_of (map specifier_of l)) c.deref.ensures.value) (c.enumerated_type.ensures.ok (with_texts t c.args.scope.now))
