use Rattle.std.proofs.Common.{refl}
use Rattle.typed_ast.specs.View.{program_of}
use Rattle.verify.proofs.Steps.{main_body_at}
use Rattle.verify.proofs.bodies.function_shown.Goals as goal

pub returns : goal.returns
returns c = main_body_at (program_of c.args.program.now) c.args.work.now _ _ _ _ _ _ _ _ c.deref.ensures.value refl c.requires.sound c.requires.main c.requires.begins c.object_count.ensures c.in_ok-entry.ensures c.in_ok-_left.ensures
