use Rattle.std.proofs.Common.{rules}
use Rattle.std.proofs.Math.Facts.{to_z-of_z}
use Rattle.interp_store.specs.layer.Agrees.{number}
use Rattle.interp_eval.proofs.Comings.{after_tick, no_tick, gave_now}
use Rattle.interp_eval.proofs.expressions.constant.Goals as goal

pub returns-then-not-tick-clause-does : goal.returns-then-not-tick-clause-does
returns-then-not-tick-clause-does c = λ run rest h.
    no_tick run c.args.scope.now.limit c.args.clock.now.spent c.tick.new.self c.args.scene.now _ rest c.tick.result c.if-not-tick.true c.tick.ensures.idle c.tick.ensures.same h

pub returns-then-not-tick-clause-here : goal.returns-then-not-tick-clause-here
returns-then-not-tick-clause-here c = λ q none. c.tick.ensures.here c.if-not-tick.true

pub returns-clause-does : goal.returns-clause-does
returns-clause-does c = λ run rest h.
    gave_now number run c.args.scope.now.limit c.args.scene.now c.args.v rest _ c.tick.new.self (search (rules, to_z-of_z))
    (after_tick run c.args.clock.now.spent c.tick.new.self.spent c.args.scene.now _ rest c.tick.result c.if-not-tick.false c.tick.ensures.taken h)
