use Rattle.std.proofs.Common.{[], sym, append-nil}
use Rattle.typing_statements.proofs.ForRules.{start_expression}
use Rattle.typing_statements.proofs.loop_controls.started.Goals as goal

pub returns-in-Ok-clause-ok : goal.returns-in-Ok-clause-ok
returns-in-Ok-clause-ok c = (
  [],
  [],
  sym (append-nil c.args.declared.now.items),
  sym (append-nil c.args.initial.now.items),
  start_expression c.args.names.now c.args.scope.now c.effect_in.new.scope c.args.start.now c.in-Expression.e c.in-Ok.value c.in-Expression.is c.in-Ok.ensures.ok.0 c.in-Ok.ensures.ok.1,
)
