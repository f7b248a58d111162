use Rattle.std.proofs.Common.{map}
use Rattle.typed_ast.specs.View.{object_type_of, program_of, statement_of, statements_of}
use Rattle.csem.specs.Statements.{all_renewed}
use Rattle.interp_store.specs.layer.Agrees.{frames_of}
use Rattle.interp_store.specs.layer.Steps.{started}
use Rattle.cabs.proofs.Sweeps.{after_change}
use Rattle.cabs.proofs.opening.block.Goals as goal

pub returns-in-Ok-clause-does : goal.returns-in-Ok-clause-does
returns-in-Ok-clause-does c = λ run h.
    let m = c.args.machine.now in
    let objects = map object_type_of c.args.objects.now in
    c.sequence.ensures.does run (after_change run (program_of m.program.now) c.args.clock.now.spent (frames_of m) m.scene c.renew_all.new.scene (all_renewed objects c.args.first c.args.count)
    (λ s. started objects (statements_of (map statement_of c.args.all.now)) s) c.in-Ok.ensures.ok h)
