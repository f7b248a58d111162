use Rattle.std.proofs.Common.{rules}
use Rattle.asm.proofs.Writing.{then_one}
use Rattle.asm.proofs.emit.put_branch.Goals as goal

pub returns-in_ok-put-clause-ok : goal.returns-in_ok-put-clause-ok
returns-in_ok-put-clause-ok c = then_one c.put_jump.result _ _ _ _ _ _ c.in_ok-put.ensures.ok c.put_jump.ensures.ok (search rules)
