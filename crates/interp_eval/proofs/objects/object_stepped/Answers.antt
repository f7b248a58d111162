use Rattle.typed_ast.specs.View.{program_of}
use Rattle.csem.specs.Store.{whole}
use Rattle.interp_store.specs.View.{reference_of}
use Rattle.interp_store.specs.layer.Agrees.{number, stepped}
use Rattle.interp_eval.proofs.Comings.{after_tick, no_tick}
use Rattle.interp_eval.proofs.Leaves.{gave_with}
use Rattle.std.proofs.Common.{refl}
use Rattle.interp_eval.proofs.Endings.{stays_for, stays_stepped}
use Rattle.interp_eval.proofs.objects.object_stepped.Goals as goal

pub returns-then-not-tick-clause-does : goal.returns-then-not-tick-clause-does
returns-then-not-tick-clause-does c = λ run rest h.
    no_tick run c.args.scope.now.limit c.args.clock.now.spent c.tick.new.self c.args.scene.now _ rest c.tick.result c.if-not-tick.true c.tick.ensures.idle c.tick.ensures.same h

pub returns-then-not-tick-clause-here : goal.returns-then-not-tick-clause-here
returns-then-not-tick-clause-here c = λ q none. c.tick.ensures.here c.if-not-tick.true

pub returns-clause-does : goal.returns-clause-does
returns-clause-does c = λ run rest h.
    gave_with number run c.args.scope.now.limit c.tick.new.self.spent c.args.scene.now c.step_at.new.scene
    (λ r s. stepped (program_of c.args.scope.now.program.now) c.args.c.now r s) rest c.given.new.self c.given.ensures.spent
    (reference_of c.whole.result) (whole c.args.n) c.whole.ensures
    (after_tick run c.args.clock.now.spent c.tick.new.self.spent c.args.scene.now _ rest c.tick.result c.if-not-tick.false c.tick.ensures.taken h)
    c.step_at.result c.given.result c.step_at.ensures c.given.ensures.gives

pub returns-clause-here : goal.returns-clause-here
returns-clause-here c = λ q. c.given.ensures.here refl

pub given-requires : goal.given-requires
given-requires c =
    let p = program_of c.args.scope.now.program.now in
    let r = reference_of c.whole.result in
    record { leaf = stays_for number (λ s. stepped p c.args.c.now r s) c.step_at.result c.args.scene.now c.step_at.new.scene (λ s. stays_stepped p c.args.c.now r s) c.step_at.ensures }
