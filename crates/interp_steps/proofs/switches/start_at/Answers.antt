use Rattle.std.proofs.Common.{map, refl, sym, ap, ◌∙◌}
use Rattle.typed_ast.specs.View.{object_type_of, statement_of, statements_of}
use Rattle.csem.specs.Statements.{Normal}
use Rattle.interp_store.specs.layer.Frames.{a_flow}
use Rattle.interp_store.specs.layer.Steps.{from_label, goes}
use Rattle.interp_store.specs.layer.Agrees.{frames_of, state_in}
use Rattle.interp_store.proofs.Taken.{agrees_as}
use Rattle.interp_steps.proofs.Steps.{no_label, leaves_as}
use Rattle.interp_steps.proofs.switches.start_at.Goals as goal

pub returns-in-None-clause-takes : goal.returns-in-None-clause-takes
returns-in-None-clause-takes c = λ o.
    let m = c.args.machine.now in
    let s = state_in m.scene o in
    let objects = map object_type_of c.args.objects.now in
    let all = statements_of (map statement_of c.args.all.now.items) in
    agrees_as (from_label objects c.args.label all s) (goes (a_flow Normal) s) (frames_of m) (frames_of m) c.left.result s
    (sym (ap (λ l. from_label objects l all s) c.in-None.is ∙ no_label objects all s)) (leaves_as (frames_of m) _ c.left.result s s c.left.ensures refl)
