use Rattle.typed_ast.specs.View.{program_of}
use Rattle.interp_eval.proofs.Wholes.{is_whole}
use Rattle.interp_eval.proofs.objects.whole_object.Goals as goal

pub returns-in-Named : goal.returns-in-Named
returns-in-Named c = is_whole (program_of c.args.scope.now.program.now) c.args.scene.now c.args.a.now c.in-Named.field-0 c.in-Named.what c.object_of.result c.in-Named.is c.object_of.ensures
