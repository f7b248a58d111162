use Rattle.interp_store.proofs.Taken.{place_left_as}
use Rattle.interp_store.specs.View.{reference_of}
use Rattle.interp_store.specs.layer.Agrees.{frames_of, state_in, stepped}
use Rattle.typed_ast.specs.View.{program_of}
use Rattle.interp_store.proofs.operands.leave_place.Goals as goal

pub returns-in-Steps-clause-takes : goal.returns-in-Steps-clause-takes
returns-in-Steps-clause-takes c =
    let m = c.args.machine.now in
    place_left_as c.args.frame _ (reference_of c.args.r) m (record m { scene = c.step.new.self }) c.gives_value-in-Steps.result c.in-Steps.is (λ o. let s = state_in m.scene o in let p = program_of m.program.now in
    c.gives_value-in-Steps.ensures (stepped p c.in-Steps.step (reference_of c.args.r) s) (state_in c.step.new.self o) (frames_of m) (c.step.ensures o))

pub returns-clause-takes : goal.returns-clause-takes
returns-clause-takes c = place_left_as c.args.frame _ (reference_of c.args.r) c.args.machine.now c.pass.new.machine c.pass.result c.in-ArrayPassed.is c.pass.ensures.takes
