use Rattle.std.proofs.Common.{refl}
use Rattle.csem.specs.Machine.{Goes}
use Rattle.csem.specs.Statements.{Normal, renewed}
use Rattle.interp_store.specs.layer.Views.{flow_of}
use Rattle.interp_store.specs.declared.frames.Flow.TheVariants as flow
use Rattle.interp_eval.specs.layer.Comes.{objects_in}
use Rattle.interp_eval.proofs.Comings.{after_tick, no_tick, gave_now}
use Rattle.interp_eval.proofs.Flows.{moved}
use Rattle.interp_eval.proofs.statements.declaration.Goals as goal

pub returns-then-not-tick-clause-does : goal.returns-then-not-tick-clause-does
returns-then-not-tick-clause-does c = λ run rest h.
    no_tick run c.args.scope.now.limit c.args.clock.now.spent c.tick.new.self c.args.scene.now _ rest c.tick.result c.if-not-tick.true c.tick.ensures.idle c.tick.ensures.same h

pub returns-then-not-tick-clause-here : goal.returns-then-not-tick-clause-here
returns-then-not-tick-clause-here c = λ q none. c.tick.ensures.here c.if-not-tick.true

pub returns-in-Ok-clause-does : goal.returns-in-Ok-clause-does
returns-in-Ok-clause-does c = λ run rest h.
    gave_now flow_of run c.args.scope.now.limit c.renew.new.self Normal rest flow.Normal c.tick.new.self refl
    (moved run c.tick.new.self.spent c.args.scene.now c.renew.new.self (renewed (objects_in c.args.scope.now) c.args.n) (λ s. Goes Normal s) rest
    c.in-Ok.ensures.ok (after_tick run c.args.clock.now.spent c.tick.new.self.spent c.args.scene.now _ _ c.tick.result c.if-not-tick.false
    c.tick.ensures.taken h))
