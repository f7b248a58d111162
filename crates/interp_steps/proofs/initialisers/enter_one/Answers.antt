use Rattle.typed_ast.specs.View.{value_of}
use Rattle.interp_store.specs.layer.Steps.{entered_value}
use Rattle.interp_store.proofs.Taken.{takes_behind}
use Rattle.interp_steps.proofs.initialisers.enter_one.Goals as goal

pub returns-in-Ok-clause-takes : goal.returns-in-Ok-clause-takes
returns-in-Ok-clause-takes c = takes_behind c.args.machine.now c.push.new.self c.enter_value.new.machine _ c.enter_value.result
    (λ p s. entered_value p (value_of c.args.e.now) s) c.in-Ok.ensures.pushed c.in-Ok.ensures.scene c.in-Ok.ensures.program c.enter_value.ensures.takes
