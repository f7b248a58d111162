use Rattle.std.proofs.Common.{◌∙◌, [], List, Bor, Some, ap, arith, map}
use Rattle.typed_ast.specs.declared.statements.Statement.{Statement}
use Rattle.typed_ast.specs.declared.units.Program as unit
use Rattle.typed_ast.specs.View.{object_type_of, program_of, statement_of, statements_of}
use Rattle.interp_store.specs.layer.Agrees.{frames_of}
use Rattle.interp_store.specs.layer.Frames as on
use Rattle.interp_store.specs.layer.Steps.{started}
use Rattle.interp_store.specs.layer.Views.{flow_of}
use Rattle.interp_store.specs.declared.frames.Flow.TheVariants as flow
use Rattle.cabs.proofs.Sweeps.{after_as, finds_with, found_none, found_some, no_items, on_stack, on_true, started_head}
use Rattle.cabs.proofs.opening.sequence.Goals as goal

pub returns-then-not-is_short-clause-does : goal.returns-then-not-is_short-clause-does
returns-then-not-is_short-clause-does c = λ run h.
    let p = program_of c.args.machine.now.program.now in
    let l = c.loop-a in
    let objects = map object_type_of c.args.objects.now in
    let new = c.wait_in.new.machine in
    on_stack run p l.clock.spent c.wait_in.new.clock.spent (frames_of l.machine) (frames_of new) l.machine.scene new.scene (on.rest objects (statements_of (map statement_of c.in-Some.more.now)))
    (on.statement objects (statement_of c.in-Some.a.now)) c.wait_in.ensures.spent (on_true _ c.wait_in.result c.if-not-wait_in.false c.wait_in.ensures.stacked) c.wait_in.ensures.scene
    (started_head run p l.clock.spent (frames_of l.machine) l.machine.scene objects l.rest.now c.in-Some.a.now c.in-Some.more.now c.in-Some.ensures.cases.0 (l.invariant.does run h))

pub returns-in-None-clause-does : goal.returns-in-None-clause-does
returns-in-None-clause-does c = λ run h.
    let p = program_of c.args.machine.now.program.now in
    let l = c.loop-a in
    let objects = map object_type_of c.args.objects.now in
    let new = c.statement_here.new.machine in
    let x = on.statement objects (statement_of c.in-Some.a.now) in
    let f = on.rest objects (statements_of (map statement_of c.in-Some.more.now)) in
    found_none (λ a. on.a_flow (flow_of a)) run p f c.args.limit c.statement_here.result c.statement_here.new.clock new c.in-None.is
    (finds_with on.a_flow flow_of c.args.limit x run p l.machine new l.clock c.statement_here.new.clock c.statement_here.result (ap (λ (b : Bor unit.Program). program_of b.now) l.invariant.program) c.statement_here.ensures.does f
    (started_head run p l.clock.spent (frames_of l.machine) l.machine.scene objects l.rest.now c.in-Some.a.now c.in-Some.more.now c.in-Some.ensures.cases.0 (l.invariant.does run h)))

pub returns-in-Some-Broken-clause-does : goal.returns-in-Some-Broken-clause-does
returns-in-Some-Broken-clause-does c = λ run h.
    let p = program_of c.args.machine.now.program.now in
    let l = c.loop-a in
    let objects = map object_type_of c.args.objects.now in
    let new = c.statement_here.new.machine in
    let x = on.statement objects (statement_of c.in-Some.a.now) in
    let f = on.rest objects (statements_of (map statement_of c.in-Some.more.now)) in
    found_some (λ a. on.a_flow (flow_of a)) run p f c.args.limit c.statement_here.result flow.Broken c.statement_here.new.clock new (c.in-Some-Broken.is ∙ ap Some c.in-Some-Broken.field-0-is)
    (finds_with on.a_flow flow_of c.args.limit x run p l.machine new l.clock c.statement_here.new.clock c.statement_here.result (ap (λ (b : Bor unit.Program). program_of b.now) l.invariant.program) c.statement_here.ensures.does f
    (started_head run p l.clock.spent (frames_of l.machine) l.machine.scene objects l.rest.now c.in-Some.a.now c.in-Some.more.now c.in-Some.ensures.cases.0 (l.invariant.does run h)))

pub returns-in-Some-Continued-clause-does : goal.returns-in-Some-Continued-clause-does
returns-in-Some-Continued-clause-does c = λ run h.
    let p = program_of c.args.machine.now.program.now in
    let l = c.loop-a in
    let objects = map object_type_of c.args.objects.now in
    let new = c.statement_here.new.machine in
    let x = on.statement objects (statement_of c.in-Some.a.now) in
    let f = on.rest objects (statements_of (map statement_of c.in-Some.more.now)) in
    found_some (λ a. on.a_flow (flow_of a)) run p f c.args.limit c.statement_here.result flow.Continued c.statement_here.new.clock new (c.in-Some-Continued.is ∙ ap Some c.in-Some-Continued.field-0-is)
    (finds_with on.a_flow flow_of c.args.limit x run p l.machine new l.clock c.statement_here.new.clock c.statement_here.result (ap (λ (b : Bor unit.Program). program_of b.now) l.invariant.program) c.statement_here.ensures.does f
    (started_head run p l.clock.spent (frames_of l.machine) l.machine.scene objects l.rest.now c.in-Some.a.now c.in-Some.more.now c.in-Some.ensures.cases.0 (l.invariant.does run h)))

pub returns-in-Some-Returned-clause-does : goal.returns-in-Some-Returned-clause-does
returns-in-Some-Returned-clause-does c = λ run h.
    let p = program_of c.args.machine.now.program.now in
    let l = c.loop-a in
    let objects = map object_type_of c.args.objects.now in
    let new = c.statement_here.new.machine in
    let x = on.statement objects (statement_of c.in-Some.a.now) in
    let f = on.rest objects (statements_of (map statement_of c.in-Some.more.now)) in
    found_some (λ a. on.a_flow (flow_of a)) run p f c.args.limit c.statement_here.result (flow.Returned c.in-Some-Returned.v) c.statement_here.new.clock new (c.in-Some-Returned.is ∙ ap Some c.in-Some-Returned.field-0-is)
    (finds_with on.a_flow flow_of c.args.limit x run p l.machine new l.clock c.statement_here.new.clock c.statement_here.result (ap (λ (b : Bor unit.Program). program_of b.now) l.invariant.program) c.statement_here.ensures.does f
    (started_head run p l.clock.spent (frames_of l.machine) l.machine.scene objects l.rest.now c.in-Some.a.now c.in-Some.more.now c.in-Some.ensures.cases.0 (l.invariant.does run h)))

pub returns-clause-does : goal.returns-clause-does
returns-clause-does c = λ run h.
    let l = c.loop-a in
    let objects = map object_type_of c.args.objects.now in
    after_as run (program_of c.args.machine.now.program.now) l.clock.spent (frames_of l.machine) l.machine.scene (λ s. started objects (statements_of (map statement_of l.rest.now)) s) (λ s. started objects (statements_of []) s)
    (λ s. ap (λ (xs : List Statement). started objects (statements_of (map statement_of xs)) s) (no_items l.rest.now (c.in_default.ensures.cases))) (l.invariant.does run h)

pub loop-a-preserved : goal.loop-a-preserved
loop-a-preserved c = record {
  program = c.statement_here.ensures.program ∙ c.loop-a.invariant.program;
  spends = (omega (arith, c.loop-a.invariant.spends.0, c.statement_here.ensures.spends.0), c.statement_here.ensures.spends.1);
  does = λ run h.
      let p = program_of c.args.machine.now.program.now in
      let l = c.loop-a in
      let objects = map object_type_of c.args.objects.now in
      let new = c.statement_here.new.machine in
      let x = on.statement objects (statement_of c.in-Some.a.now) in
      let f = on.rest objects (statements_of (map statement_of c.in-Some.more.now)) in
      found_some (λ a. on.a_flow (flow_of a)) run p f c.args.limit c.statement_here.result flow.Normal c.statement_here.new.clock new (c.in-Some-Normal.is ∙ ap Some c.in-Some-Normal.field-0-is)
      (finds_with on.a_flow flow_of c.args.limit x run p l.machine new l.clock c.statement_here.new.clock c.statement_here.result (ap (λ (b : Bor unit.Program). program_of b.now) l.invariant.program) c.statement_here.ensures.does f
      (started_head run p l.clock.spent (frames_of l.machine) l.machine.scene objects l.rest.now c.in-Some.a.now c.in-Some.more.now c.in-Some.ensures.cases.0 (l.invariant.does run h)));
}
