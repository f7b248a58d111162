use Rattle.std.proofs.lemmas.Result.{IfOk-weaker}
use Rattle.asm.proofs.Standing.{assembled}
use Rattle.asm.proofs.assembling.assemble_parts.Goals as goal

pub returns-clause-ok : goal.returns-clause-ok
returns-clause-ok c = IfOk-weaker c.resolve.result _ _ (λ v r. assembled c.args.homes.now c.args.base c.args.items.now v.items c.requires.table c.requires.aligned c.requires.low r) c.resolve.ensures.ok
