use Rattle.std.proofs.Common.{map, refl}
use Rattle.typed_ast.specs.View.{object_type_of, program_of, statement_of}
use Rattle.interp_store.specs.layer.Agrees.{frames_of}
use Rattle.interp_store.specs.layer.Frames as on
use Rattle.interp_store.specs.layer.Views.{flow_of}
use Rattle.interp_eval.specs.layer.Comes.{executed}
use Rattle.cabs.proofs.Sweeps.{found_for}
use Rattle.cabs.proofs.sweeping.statement_here.Goals as goal

pub returns-clause-does : goal.returns-clause-does
returns-clause-does c = λ run f h.
    let m = c.args.machine.now in
    let p = program_of m.program.now in
    let a = statement_of c.args.a.now in
    let objects = map object_type_of c.args.objects.now in
    found_for run p flow_of on.a_flow (executed objects a p) (on.statement objects a) (λ s. refl) f c.args.limit c.args.clock.now.spent (frames_of m) m.scene c.statement.result c.statement.new.clock _ refl (c.statement.ensures.does run) h
