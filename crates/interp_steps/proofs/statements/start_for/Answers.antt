use Rattle.std.proofs.Common.{map}
use Rattle.typed_ast.specs.View.{object_type_of, statement_of, statements_of}
use Rattle.interp_store.specs.layer.Steps.{started}
use Rattle.interp_store.proofs.Taken.{takes_behind}
use Rattle.interp_steps.proofs.statements.start_for.Goals as goal

pub returns-in-Ok-clause-takes : goal.returns-in-Ok-clause-takes
returns-in-Ok-clause-takes c = takes_behind c.args.machine.now c.push.new.self c.start.new.machine _ c.start.result
    (λ p s. started (map object_type_of c.args.l.objects.now) (statements_of (map statement_of c.args.declared.now)) s) c.in-Ok.ensures.pushed c.in-Ok.ensures.scene c.in-Ok.ensures.program c.start.ensures.takes
