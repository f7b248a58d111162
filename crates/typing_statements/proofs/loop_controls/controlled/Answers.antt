use Rattle.tree.specs.View.{option_tree}
use Rattle.typing_spec.specs.Statements as typed
use Rattle.typing_expressions.proofs.Verdicts.{tells_left}
use Rattle.typing_scopes.specs.Scopes.{with_texts}
use Rattle.typing_statements.proofs.loop_controls.controlled.Goals as goal

pub returns-in-Err-clause-err : goal.returns-in-Err-clause-err
returns-in-Err-clause-err c =
    tells_left c.in-Err.refusal (typed.test_in (with_texts c.args.names.now c.args.scope.now) c.args.pos (option_tree c.args.test.now))
    (typed.effect_in (typed.past_option (with_texts c.args.names.now c.args.scope.now) (option_tree c.args.test.now)) (option_tree c.args.step.now)) typed.control c.in-Err.ensures.err
