use Rattle.std.proofs.Common.{rules, ◌≡◌, sym, ap, ◌∙◌, to_z, of_z, w64, Some}
use Rattle.std.proofs.Math.Facts.{to_z-of_z}
use Rattle.ctypes.specs.Types.{converted}
use Rattle.csem.specs.Statements.{Returned}
use Rattle.interp_store.specs.layer.Agrees.{number}
use Rattle.interp_store.specs.layer.Views.{flow_of}
use Rattle.interp_store.specs.declared.frames.Flow.TheVariants as flow
use Rattle.interp_eval.proofs.Comings.{after_tick, no_tick, gone_on, gone_none, gave_now}
use Rattle.interp_eval.proofs.statements.return_value.Goals as goal

pub returns-then-not-tick-clause-does : goal.returns-then-not-tick-clause-does
returns-then-not-tick-clause-does c = λ run rest h.
    no_tick run c.args.scope.now.limit c.args.clock.now.spent c.tick.new.self c.args.scene.now _ rest c.tick.result c.if-not-tick.true c.tick.ensures.idle c.tick.ensures.same h

pub returns-then-not-tick-clause-here : goal.returns-then-not-tick-clause-here
returns-then-not-tick-clause-here c = λ q none. c.tick.ensures.here c.if-not-tick.true

pub returns-in_default-clause-does : goal.returns-in_default-clause-does
returns-in_default-clause-does c = λ run rest h.
    gone_none number run c.args.scope.now.limit c.tick.new.self.spent c.args.scene.now _ _ rest c.value.result c.value.new.clock c.value.new.scene c.in_default.is (c.value.ensures.does run)
    (after_tick run c.args.clock.now.spent c.tick.new.self.spent c.args.scene.now _ _ c.tick.result c.if-not-tick.false c.tick.ensures.taken h)

pub returns-in_default-clause-here : goal.returns-in_default-clause-here
returns-in_default-clause-here c = λ q none. c.value.ensures.here q c.in_default.is

pub returns-clause-does : goal.returns-clause-does
returns-clause-does c = λ run rest h.
    let same : to_z w64 (of_z w64 c.in-Some.v) ≡ c.in-Some.v = search (rules, to_z-of_z) in
    let same2 : to_z w64 (of_z w64 c.convert.result) ≡ c.convert.result = search (rules, to_z-of_z) in
    let is : Returned (Some (converted c.args.ty c.in-Some.v)) ≡ Returned (Some (to_z w64 (of_z w64 c.convert.result))) = ap (λ v. Returned (Some v))
    (ap (converted c.args.ty) (sym same) ∙ sym c.convert.ensures.value ∙ sym same2) in
    gave_now flow_of run c.args.scope.now.limit c.value.new.scene (Returned (Some (converted c.args.ty c.in-Some.v))) rest
    (flow.Returned (Some (to_z w64 (of_z w64 c.convert.result)))) c.value.new.clock is
    (gone_on number run c.args.scope.now.limit c.tick.new.self.spent c.args.scene.now _ _ rest c.value.result c.in-Some.v c.value.new.clock c.value.new.scene c.in-Some.is (c.value.ensures.does run)
    (after_tick run c.args.clock.now.spent c.tick.new.self.spent c.args.scene.now _ _ c.tick.result c.if-not-tick.false c.tick.ensures.taken h))
