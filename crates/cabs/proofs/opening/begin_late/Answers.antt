use Rattle.std.proofs.Common.{ap, map, subst}
use Rattle.typed_ast.specs.View.{object_type_of, program_of, statement_of}
use Rattle.interp_store.specs.layer.Agrees.{frames_of}
use Rattle.interp_store.specs.layer.Frames as on
use Rattle.interp_store.specs.layer.Views.{late_of}
use Rattle.cabs.specs.inside.Sweeping.{After, steps_to}
use Rattle.cabs.proofs.Sweeps.{on_false, on_true}
use Rattle.cabs.proofs.opening.begin_late.Goals as goal

pub returns-then-not-spend_ticks-clause-does : goal.returns-then-not-spend_ticks-clause-does
returns-then-not-spend_ticks-clause-does c = λ run h.
    let m = c.args.machine.now in
    let p = program_of m.program.now in
    on_false _ c.spend_ticks.result c.if-not-spend_ticks.true (c.spend_ticks.ensures.stopped run p (frames_of m) m.scene (late_of c.args.late) h)

pub returns-else-not-spend_ticks-clause-does : goal.returns-else-not-spend_ticks-clause-does
returns-else-not-spend_ticks-clause-does c = λ run h.
    let m = c.args.machine.now in
    let p = program_of m.program.now in
    let i = c.in-EntersBody in
    let P : on.Late → Type 0 = λ x. After run p c.args.clock.now.spent (frames_of m) m.scene (steps_to (on.enters (on.ticking c.args.more x))) in
    c.open.ensures.does run (on_true _ c.spend_ticks.result c.if-not-spend_ticks.false
    (c.spend_ticks.ensures.taken run p (frames_of m) m.scene (on.enters_body (map object_type_of i.objects.now) (statement_of i.body.now)) (subst P (ap late_of i.is) h)))
