use Rattle.typed_ast.specs.View.{program_of}
use Rattle.verify.proofs.Steps.{summary_at}
use Rattle.verify.proofs.bodies.wanted_shown.Goals as goal

pub returns : goal.returns
returns c = summary_at (program_of c.args.program.now) c.args.work.now _ _ _ _ _ _ _ _ _ _ _ c.deref.ensures.value c.deref-2.ensures.value c.requires.sound c.requires.called c.in_ok-entry.ensures c.in_ok-left.ensures c.in_ok-end.ensures
