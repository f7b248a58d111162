use Rattle.typed_ast.specs.View.{program_of}
use Rattle.verify.proofs.Steps.{nothing_listed}
use Rattle.verify.proofs.verdict.concluded.Goals as goal

pub returns-then-none : goal.returns-then-none
returns-then-none c = nothing_listed (program_of c.args.program.now) c.deref.result.now c.args.work.listed.items (c.are_none-none.ensures c.if-none.true) c.deref.ensures.value c.requires
