use Rattle.std.proofs.Common.{refl}
use Rattle.csem.specs.Store.{whole}
use Rattle.csem.specs.Machine.{read}
use Rattle.interp_store.specs.View.{reference_of}
use Rattle.interp_store.specs.layer.Agrees.{number}
use Rattle.interp_eval.proofs.Comings.{after_tick, no_tick}
use Rattle.interp_eval.proofs.Leaves.{gave_with}
use Rattle.interp_eval.proofs.Endings.{stays_for, stays_read}
use Rattle.interp_eval.proofs.objects.read_object.Goals as goal

pub returns-then-not-tick-clause-does : goal.returns-then-not-tick-clause-does
returns-then-not-tick-clause-does c = λ run rest h.
    no_tick run c.args.scope.now.limit c.args.clock.now.spent c.tick.new.self c.args.scene.now _ rest c.tick.result c.if-not-tick.true c.tick.ensures.idle c.tick.ensures.same h

pub returns-then-not-tick-clause-here : goal.returns-then-not-tick-clause-here
returns-then-not-tick-clause-here c = λ q none. c.tick.ensures.here c.if-not-tick.true

pub returns-clause-does : goal.returns-clause-does
returns-clause-does c = λ run rest h.
    gave_with number run c.args.scope.now.limit c.tick.new.self.spent c.args.scene.now c.args.scene.now (λ r s. read c.args.at r s) rest c.given.new.self c.given.ensures.spent
    (reference_of c.whole.result) (whole c.args.n) c.whole.ensures
    (after_tick run c.args.clock.now.spent c.tick.new.self.spent c.args.scene.now _ rest c.tick.result c.if-not-tick.false c.tick.ensures.taken h)
    c.read.result c.given.result c.read.ensures c.given.ensures.gives

pub returns-clause-here : goal.returns-clause-here
returns-clause-here c = λ q. c.given.ensures.here refl

pub given-requires : goal.given-requires
given-requires c =
    record { leaf = stays_for number (λ s. read c.args.at (reference_of c.whole.result) s) c.read.result c.args.scene.now c.args.scene.now (λ s. stays_read c.args.at (reference_of c.whole.result) s) c.read.ensures }
