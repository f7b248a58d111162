use Rattle.std.proofs.Common.{sym, subst, Ok}
use Rattle.pp_expand.specs.inside.Pulls.{StepsAs}
use Rattle.pp_expand.proofs.PullSteps.{step_predefined}
use Rattle.pp_expand.proofs.pulling.take_step.Goals as goal

pub returns-in_ok-push_front-in-Predefined-clause-steps : goal.returns-in_ok-push_front-in-Predefined-clause-steps
returns-in_ok-push_front-in-Predefined-clause-steps c = λ macros later is_table below grown.
    let y = c.in_ok-predefined-in-Predefined in
    subst (λ s. StepsAs {A = Unit {0}} (record { macros = macros; texts = c.args.names.now }) later s c.args.list.now.items c.args.left.now (Ok tt) c.push_front.new.self.items c.count_one.new.left) (sym c.in-Predefined.is)
    (step_predefined (record { macros = macros; texts = c.args.names.now }) later c.in-Predefined.x y.field-0 c.args.list.now.items c.push_front.new.self.items c.args.left.now c.count_one.new.left c.in_ok-count_one.ensures.ok (y.ensures.ok.1 macros later) c.in_ok-push_front-in-Predefined.ensures.items)
