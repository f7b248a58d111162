use Rattle.typed_ast.specs.View.{program_of}
use Rattle.verify.proofs.Steps.{listed_more}
use Rattle.verify.proofs.verdict.alarmed.Goals as goal

pub returns : goal.returns
returns c = listed_more (program_of c.args.program.now) _ _ _ _ c.in-Ok.ensures.items c.requires
