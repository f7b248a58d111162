use Rattle.typing.proofs.BodyScopes.{left_behind}
use Rattle.typing.proofs.heads.leave_parameters.Goals as goal

pub returns : goal.returns
returns c = λ t outer ps types e b o.
    left_behind c.args.block t outer c.args.scope.now c.outside.new.self c.change_objects.new.self _ _ ps types c.outside.ensures c.change_objects.ensures.new c.change_objects.ensures.old e b o
