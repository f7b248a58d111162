use Rattle.std.proofs.Common.{map}
use Rattle.typed_ast.specs.View.{object_type_of, statement_of, statements_of}
use Rattle.interp_store.specs.layer.Steps.{from_label}
use Rattle.interp_store.proofs.Taken.{takes_behind}
use Rattle.interp_steps.proofs.switches.jump.Goals as goal

pub returns-in-Ok-clause-takes : goal.returns-in-Ok-clause-takes
returns-in-Ok-clause-takes c = takes_behind c.args.machine.now c.push.new.self c.start_at.new.machine _ c.start_at.result
    (λ p s. from_label (map object_type_of c.args.objects.now) c.args.label (statements_of (map statement_of c.args.all.now.items)) s) c.in-Ok.ensures.pushed c.in-Ok.ensures.scene c.in-Ok.ensures.program c.start_at.ensures.takes
