use Rattle.typed_ast.specs.View.{program_of, initialiser_of}
use Rattle.interp_store.specs.View.{reference_of}
use Rattle.interp_store.specs.layer.Agrees.{frames_of, state_in}
use Rattle.interp_store.proofs.Taken.{agrees_as}
use Rattle.interp_steps.proofs.Steps.{defined_as}
use Rattle.interp_steps.proofs.statements.initialise.Goals as goal

pub returns-clause-takes : goal.returns-clause-takes
returns-clause-takes c = λ o.
    let m = c.args.machine.now in
    let s = state_in m.scene o in
    agrees_as _ _ (frames_of m) (frames_of c.wait.new.self) c.wait.result (state_in c.wait.new.self.scene o)
    (defined_as (program_of m.program.now) c.args.ty c.in-Some.ty c.args.n (initialiser_of c.args.i.now) s c.as_slice.result.now (reference_of c.own-r.result) c.in-Some.is c.as_slice.ensures.value (c.own-r.ensures o))
    (c.wait.ensures.takes o)
