use Rattle.std.proofs.Common.{rules, ◌≡◌, ap, refl, ◌∙◌, to_z, of_z, w64}
use Rattle.std.proofs.Math.Facts.{to_z-of_z}
use Rattle.ctypes.specs.Types.{converted}
use Rattle.csem.specs.Machine.{Goes, stored}
use Rattle.interp_store.specs.View.{reference_of}
use Rattle.interp_store.specs.layer.Agrees.{Outside, number, state_in}
use Rattle.interp_eval.specs.layer.Comes.{nothing}
use Rattle.interp_eval.proofs.Comings.{after_tick, no_tick, gone_on, gone_none, gave_now}
use Rattle.interp_eval.proofs.Flows.{moved}
use Rattle.interp_eval.proofs.initialisers.first_value.Goals as goal

pub returns-in_default-clause-does : goal.returns-in_default-clause-does
returns-in_default-clause-does c = λ run rest h.
    gone_none number run c.args.scope.now.limit c.args.clock.now.spent c.args.scene.now _ _ rest c.value.result c.value.new.clock c.value.new.scene c.in_default.is (c.value.ensures.does run)
    h

pub returns-in_default-clause-here : goal.returns-in_default-clause-here
returns-in_default-clause-here c = λ q none. c.value.ensures.here q c.in_default.is

pub returns-then-not-tick-clause-does : goal.returns-then-not-tick-clause-does
returns-then-not-tick-clause-does c = λ run rest h.
    no_tick run c.args.scope.now.limit c.value.new.clock.spent c.tick.new.self c.value.new.scene _ rest c.tick.result c.if-not-tick.true c.tick.ensures.idle c.tick.ensures.same
    (gone_on number run c.args.scope.now.limit c.args.clock.now.spent c.args.scene.now _ _ rest c.value.result c.in-Some.v c.value.new.clock c.value.new.scene c.in-Some.is (c.value.ensures.does run)
    h)

pub returns-then-not-tick-clause-here : goal.returns-then-not-tick-clause-here
returns-then-not-tick-clause-here c = λ q none. c.tick.ensures.here c.if-not-tick.true

pub returns-in-Ok-clause-does : goal.returns-in-Ok-clause-does
returns-in-Ok-clause-does c = λ run rest h.
    let same : to_z w64 (of_z w64 c.in-Some.v) ≡ c.in-Some.v = search (rules, to_z-of_z) in
    let same2 : to_z w64 (of_z w64 c.convert.result) ≡ c.convert.result = search (rules, to_z-of_z) in
    let value : to_z w64 (of_z w64 c.convert.result) ≡ converted c.args.ty c.in-Some.v = same2 ∙ c.convert.ensures.value ∙ ap (converted c.args.ty) same in
    let is : (o : Outside) → state_in c.set.new.self o ≡ stored (reference_of c.args.r.now) (converted c.args.ty c.in-Some.v) (state_in c.value.new.scene o) = λ o. c.in-Ok.ensures.ok o
    ∙ ap (λ v. stored (reference_of c.args.r.now) v (state_in c.value.new.scene o)) value in
    gave_now nothing run c.args.scope.now.limit c.set.new.self tt rest tt c.tick.new.self refl
    (moved run c.tick.new.self.spent c.value.new.scene c.set.new.self (stored (reference_of c.args.r.now) (converted c.args.ty c.in-Some.v)) (λ s. Goes tt s) rest is
    (after_tick run c.value.new.clock.spent c.tick.new.self.spent c.value.new.scene _ rest c.tick.result c.if-not-tick.false c.tick.ensures.taken
    (gone_on number run c.args.scope.now.limit c.args.clock.now.spent c.args.scene.now _ _ rest c.value.result c.in-Some.v c.value.new.clock c.value.new.scene c.in-Some.is (c.value.ensures.does run)
    h)))
