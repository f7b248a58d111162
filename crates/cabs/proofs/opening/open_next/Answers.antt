use Rattle.std.proofs.Common.{◌∙◌, Bor, Some, None, ap, arith, map, sym}
use Rattle.typed_ast.specs.declared.units.Program as unit
use Rattle.typed_ast.specs.View.{object_type_of, program_of, statement_of}
use Rattle.interp_store.specs.layer.Agrees.{frames_of}
use Rattle.interp_store.specs.layer.Frames as on
use Rattle.interp_store.specs.layer.Views.{node_of, step_of}
use Rattle.cabs.specs.inside.Sweeping.{steps_to}
use Rattle.cabs.proofs.Sweeps.{after_as, comes_none, comes_some, on_with}
use Rattle.cabs.proofs.opening.open_next.Goals as goal

pub returns-then-is_quick_statement-clause-does : goal.returns-then-is_quick_statement-clause-does
returns-then-is_quick_statement-clause-does c = λ run h.
    let l = c.loop-next in
    after_as run (program_of c.args.machine.now.program.now) l.clock.spent (frames_of l.machine) l.machine.scene (λ s. steps_to (step_of l.next) s) _ (λ s. ap (λ x. steps_to (step_of x) s) c.in-Enters.is ∙ ap (λ n. steps_to (on.enters (node_of n)) s) c.in-Statement.is) (l.invariant.does run h)

pub returns-in-None-clause-does : goal.returns-in-None-clause-does
returns-in-None-clause-does c = λ run h.
    let l = c.loop-next in
    let p = program_of c.args.machine.now.program.now in
    let x = on.statement (map object_type_of c.in-Statement.objects.now) (statement_of c.in-Statement.a.now) in
    comes_none (λ x. steps_to (step_of x)) run p c.args.limit c.open.result c.open.new.clock c.open.new.machine c.in-None.is
    (on_with (λ x. steps_to (step_of x)) c.args.limit (λ p s. steps_to (on.enters x) s) run p l.machine c.open.new.machine l.clock c.open.new.clock c.open.result
    (ap (λ (b : Bor unit.Program). program_of b.now) l.invariant.program) c.open.ensures.does
    (after_as run p l.clock.spent (frames_of l.machine) l.machine.scene (λ s. steps_to (step_of l.next) s) (λ s. steps_to (on.enters x) s) (λ s. ap (λ x. steps_to (step_of x) s) c.in-Enters.is ∙ ap (λ n. steps_to (on.enters (node_of n)) s) c.in-Statement.is) (l.invariant.does run h)))

pub loop-next-preserved : goal.loop-next-preserved
loop-next-preserved c = record {
  program = c.open.ensures.program ∙ c.loop-next.invariant.program;
  spends = (omega (arith, c.loop-next.invariant.spends.0, c.open.ensures.spends.0), c.open.ensures.spends.1);
  does = λ run h.
      let l = c.loop-next in
      let p = program_of c.args.machine.now.program.now in
      let x = on.statement (map object_type_of c.in-Statement.objects.now) (statement_of c.in-Statement.a.now) in
      comes_some (λ x. steps_to (step_of x)) run p c.args.limit c.open.result c.in-Some.step c.open.new.clock c.open.new.machine c.in-Some.is
      (on_with (λ x. steps_to (step_of x)) c.args.limit (λ p s. steps_to (on.enters x) s) run p l.machine c.open.new.machine l.clock c.open.new.clock c.open.result
      (ap (λ (b : Bor unit.Program). program_of b.now) l.invariant.program) c.open.ensures.does
      (after_as run p l.clock.spent (frames_of l.machine) l.machine.scene (λ s. steps_to (step_of l.next) s) (λ s. steps_to (on.enters x) s) (λ s. ap (λ x. steps_to (step_of x) s) c.in-Enters.is ∙ ap (λ n. steps_to (on.enters (node_of n)) s) c.in-Statement.is) (l.invariant.does run h)));
}

pub returns-in_default-clause-does : goal.returns-in_default-clause-does
returns-in_default-clause-does c = λ run h. c.loop-next.invariant.does run h

pub returns-in_default-node-clause-does : goal.returns-in_default-node-clause-does
returns-in_default-node-clause-does c = λ run h.
    let l = c.loop-next in
    after_as run (program_of c.args.machine.now.program.now) l.clock.spent (frames_of l.machine) l.machine.scene (λ s. steps_to (step_of l.next) s) (λ s. steps_to (on.enters (node_of c.in-Enters.node)) s) (λ s. ap (λ x. steps_to (step_of x) s) c.in-Enters.is) (l.invariant.does run h)
