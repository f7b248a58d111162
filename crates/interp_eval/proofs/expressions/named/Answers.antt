use Rattle.interp_store.specs.View.{reference_of}
use Rattle.interp_eval.proofs.Comings.{after_tick, no_tick, gave}
use Rattle.std.proofs.Common.{refl}
use Rattle.typed_ast.specs.View.{program_of, storage_of}
use Rattle.csem.specs.Machine.{Goes, designated}
use Rattle.interp_eval.proofs.Endings.{stays_for}
use Rattle.interp_eval.proofs.expressions.named.Goals as goal

pub returns-then-not-tick-clause-does : goal.returns-then-not-tick-clause-does
returns-then-not-tick-clause-does c = λ run rest h.
    no_tick run c.args.scope.now.limit c.args.clock.now.spent c.tick.new.self c.args.scene.now _ rest c.tick.result c.if-not-tick.true c.tick.ensures.idle c.tick.ensures.same h

pub returns-then-not-tick-clause-here : goal.returns-then-not-tick-clause-here
returns-then-not-tick-clause-here c = λ q none. c.tick.ensures.here c.if-not-tick.true

pub returns-clause-does : goal.returns-clause-does
returns-clause-does c = λ run rest h.
    gave reference_of run c.args.scope.now.limit c.tick.new.self.spent c.args.scene.now c.args.scene.now _ rest c.found.new.self c.found.ensures.spent
    (after_tick run c.args.clock.now.spent c.tick.new.self.spent c.args.scene.now _ rest c.tick.result c.if-not-tick.false c.tick.ensures.taken h)
    c.designated.result c.found.result c.designated.ensures c.found.ensures.gives

pub returns-clause-here : goal.returns-clause-here
returns-clause-here c = λ q. c.found.ensures.here refl

pub found-requires : goal.found-requires
found-requires c =
    record { leaf = stays_for reference_of (λ s. Goes (designated (program_of c.args.scope.now.program.now) (storage_of c.args.what) s) s) c.designated.result c.args.scene.now c.args.scene.now (λ s. tt) c.designated.ensures }
