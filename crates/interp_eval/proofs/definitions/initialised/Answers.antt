use Rattle.std.proofs.Common.{sym, refl}
use Rattle.typed_ast.specs.View.{program_of, initialiser_of, object_type_of}
use Rattle.csem.specs.Machine.{Goes}
use Rattle.csem.specs.Statements.{Normal}
use Rattle.interp_store.specs.View.{reference_of}
use Rattle.interp_store.specs.layer.Views.{flow_of}
use Rattle.interp_store.specs.declared.frames.Flow.TheVariants as flow
use Rattle.interp_eval.specs.layer.Comes.{nothing, objects_in}
use Rattle.interp_eval.proofs.Comings.{gave_now, gone_on, gone_none}
use Rattle.interp_eval.proofs.Flows.{defines, defines_none}
use Rattle.interp_eval.proofs.definitions.initialised.Goals as goal

pub returns-in_default-clause-does : goal.returns-in_default-clause-does
returns-in_default-clause-does c = λ run rest h.
    gave_now flow_of run c.args.scope.now.limit c.args.scene.now Normal rest flow.Normal c.args.clock.now refl
    (defines_none run c.args.clock.now.spent c.args.scene.now (program_of c.args.scope.now.program.now) (objects_in c.args.scope.now) c.args.n _
    (initialiser_of c.args.i.now) rest (sym c.in_default.ensures) h)

pub returns-in-None-clause-does : goal.returns-in-None-clause-does
returns-in-None-clause-does c = λ run rest h.
    gone_none nothing run c.args.scope.now.limit c.args.clock.now.spent c.args.scene.now _ (λ u s. Goes Normal s) rest c.initialise.result c.initialise.new.clock c.initialise.new.scene
    c.in-None.is (c.initialise.ensures.does run)
    (defines run c.args.clock.now.spent c.args.scene.now (program_of c.args.scope.now.program.now) (objects_in c.args.scope.now) c.args.n _ c.in-Some.ty.now.element c.as_slice.result.now
    (object_type_of c.in-Some.ty.now) (initialiser_of c.args.i.now) (reference_of c.own-r.result) rest (sym c.in-Some.ensures) refl c.as_slice.ensures.value (λ o. c.own-r.ensures o) h)

pub returns-in-None-clause-here : goal.returns-in-None-clause-here
returns-in-None-clause-here c = λ q none. c.initialise.ensures.here q c.in-None.is

pub returns-clause-does : goal.returns-clause-does
returns-clause-does c = λ run rest h.
    gave_now flow_of run c.args.scope.now.limit c.initialise.new.scene Normal rest flow.Normal c.initialise.new.clock refl
    (gone_on nothing run c.args.scope.now.limit c.args.clock.now.spent c.args.scene.now _ (λ u s. Goes Normal s) rest c.initialise.result c.in-Some-initialise.field-0 c.initialise.new.clock c.initialise.new.scene
    c.in-Some-initialise.is (c.initialise.ensures.does run)
    (defines run c.args.clock.now.spent c.args.scene.now (program_of c.args.scope.now.program.now) (objects_in c.args.scope.now) c.args.n _ c.in-Some.ty.now.element c.as_slice.result.now
    (object_type_of c.in-Some.ty.now) (initialiser_of c.args.i.now) (reference_of c.own-r.result) rest (sym c.in-Some.ensures) refl c.as_slice.ensures.value (λ o. c.own-r.ensures o) h))
