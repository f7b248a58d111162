use Rattle.tree.specs.View.{option_tree}
use Rattle.typing_spec.specs.Declarations as typed
use Rattle.typing_scopes.specs.Scopes.{with_texts}
use Rattle.decls_declarators.proofs.Verdicts.{provided_left}
use Rattle.decls_specifiers.proofs.enumerator_lists.checked_enumerator.Goals as goal

pub returns-in-Err-clause-err : goal.returns-in-Err-clause-err
returns-in-Err-clause-err c =
    provided_left c.in-Err.refusal (typed.fresh_enumerator (with_texts c.args.names.now c.args.scope.now) c.args.enumerator.now.pos c.args.enumerator.now.name)
    (typed.value_of_enumerator (with_texts c.args.names.now c.args.scope.now) c.args.next c.args.enumerator.now.pos (option_tree c.args.enumerator.now.value)) c.in-Err.ensures.err
