use Rattle.std.proofs.Common.{rules}
use Rattle.asm.proofs.Writing.{then_one}
use Rattle.asm.proofs.emit.put_call.Goals as goal

pub returns-clause-ok : goal.returns-clause-ok
returns-clause-ok c = then_one c.put-2.result _ _ _ _ _ _ c.in_ok-put.ensures.ok c.put-2.ensures.ok (search rules)
