use Rattle.std.proofs.Common.{ap, ◌∙◌, map}
use Rattle.std.specs.Prelude.{slice_get}
use Rattle.typed_ast.specs.View.{program_of, initialiser_of, object_type_of}
use Rattle.interp_store.specs.layer.Agrees.{frames_of, state_in}
use Rattle.interp_store.specs.layer.Steps.{defines}
use Rattle.interp_store.proofs.Taken.{agrees_as}
use Rattle.interp_steps.proofs.statements.define.Goals as goal

pub returns-in-Ok-clause-takes : goal.returns-in-Ok-clause-takes
returns-in-Ok-clause-takes c = λ o.
    let m = c.args.machine.now in
    let p = program_of m.program.now in
    let n = c.args.n in
    let i = initialiser_of c.args.i.now in
    let s = state_in c.renew.new.self o in
    agrees_as _ _ (frames_of m) (frames_of c.initialise.new.machine) c.initialise.result (state_in c.initialise.new.machine.scene o)
    (ap (λ t. defines p t n i s) c.type_of.ensures ∙ ap (λ s. defines p (slice_get (map object_type_of c.args.objects.now) n) n i s) (c.in-Ok.ensures.ok o))
    (c.initialise.ensures.takes o)
