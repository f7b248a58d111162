use Rattle.std.proofs.Common.{List, map, ap, ◌∙◌}
use Rattle.std.specs.Prelude.{None}
use Rattle.std.proofs.Math.Facts.{to_z-of_z}
use Rattle.typed_ast.specs.declared.statements.Statement.{Statement}
use Rattle.typed_ast.specs.View.{object_type_of, statement_of, statements_of}
use Rattle.csem.specs.Statements.{labels_of}
use Rattle.interp_store.specs.layer.Steps.{sought}
use Rattle.interp_store.specs.layer.Agrees.{frames_of, state_in}
use Rattle.interp_store.proofs.Taken.{agrees_as}
use Rattle.interp_steps.proofs.switches.enter_block.Goals as goal

pub returns-in-Ok-clause-takes : goal.returns-in-Ok-clause-takes
returns-in-Ok-clause-takes c = λ o.
    let m = c.args.machine.now in
    let b = c.args.block in
    let objects = map object_type_of b.objects.now in
    let all = statements_of (map statement_of b.all.now.items) in
    let s = state_in c.renew_all.new.scene o in
    agrees_as _ _ (frames_of m) (frames_of c.go_on.new.machine) c.go_on.result (state_in c.go_on.new.machine.scene o)
    (ap (λ v. sought objects v (labels_of (statements_of (map statement_of c.as_slice.result.now))) 0 None all s) (to_z-of_z c.ranges.value)
    ∙ ap (λ (l : List Statement). sought objects c.args.value (labels_of (statements_of (map statement_of l))) 0 None all s) c.as_slice.ensures.value
    ∙ ap (λ s. sought objects c.args.value (labels_of all) 0 None all s) (c.in-Ok.ensures.ok o))
    (c.go_on.ensures.takes o)
