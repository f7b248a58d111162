use Rattle.std.proofs.Common.{refl}
use Rattle.interp_store.specs.layer.Views.{flow_of}
use Rattle.interp_eval.proofs.Comings.{after_tick, no_tick, gave_now}
use Rattle.interp_eval.proofs.statements.at_once.Goals as goal

pub returns-then-not-tick-clause-does : goal.returns-then-not-tick-clause-does
returns-then-not-tick-clause-does c = λ run rest h.
    no_tick run c.args.scope.now.limit c.args.clock.now.spent c.tick.new.self c.args.scene.now _ rest c.tick.result c.if-not-tick.true c.tick.ensures.idle c.tick.ensures.same h

pub returns-then-not-tick-clause-here : goal.returns-then-not-tick-clause-here
returns-then-not-tick-clause-here c = λ q none. c.tick.ensures.here c.if-not-tick.true

pub returns-clause-does : goal.returns-clause-does
returns-clause-does c = λ run rest h.
    gave_now flow_of run c.args.scope.now.limit c.args.scene.now (flow_of c.args.flow) rest c.args.flow c.tick.new.self refl
    (after_tick run c.args.clock.now.spent c.tick.new.self.spent c.args.scene.now _ _ c.tick.result c.if-not-tick.false c.tick.ensures.taken h)
