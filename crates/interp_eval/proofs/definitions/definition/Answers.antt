use Rattle.std.specs.Prelude.{slice_get}
use Rattle.typed_ast.specs.View.{program_of, initialiser_of}
use Rattle.csem.specs.Statements.{renewed, define_object}
use Rattle.interp_store.specs.layer.Presents.{call_in}
use Rattle.interp_eval.specs.layer.Comes.{objects_in}
use Rattle.interp_eval.proofs.Comings.{after_tick, no_tick}
use Rattle.interp_eval.proofs.Flows.{moved}
use Rattle.interp_eval.proofs.definitions.definition.Goals as goal

pub returns-then-not-tick-clause-does : goal.returns-then-not-tick-clause-does
returns-then-not-tick-clause-does c = λ run rest h.
    no_tick run c.args.scope.now.limit c.args.clock.now.spent c.tick.new.self c.args.scene.now _ rest c.tick.result c.if-not-tick.true c.tick.ensures.idle c.tick.ensures.same h

pub returns-then-not-tick-clause-here : goal.returns-then-not-tick-clause-here
returns-then-not-tick-clause-here c = λ q none. c.tick.ensures.here c.if-not-tick.true

pub returns-in-Ok-clause-does : goal.returns-in-Ok-clause-does
returns-in-Ok-clause-does c = λ run rest h.
    c.initialised.ensures.does run rest (moved run c.tick.new.self.spent c.args.scene.now c.renew.new.self
    (renewed (objects_in c.args.scope.now) c.args.n)
    (λ s. define_object (program_of c.args.scope.now.program.now) (call_in (program_of c.args.scope.now.program.now))
    (objects_in c.args.scope.now) (slice_get (objects_in c.args.scope.now) c.args.n) c.args.n (initialiser_of c.args.i.now) s) rest
    c.in-Ok.ensures.ok (after_tick run c.args.clock.now.spent c.tick.new.self.spent c.args.scene.now _ _ c.tick.result c.if-not-tick.false
    c.tick.ensures.taken h))

pub returns-in-Ok-clause-here : goal.returns-in-Ok-clause-here
returns-in-Ok-clause-here c = λ q. c.initialised.ensures.here q
