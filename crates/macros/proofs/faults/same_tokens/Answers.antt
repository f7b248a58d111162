use Rattle.macros.proofs.FaultLemmas.{unequal}
use Rattle.macros.proofs.faults.same_tokens.Goals as goal

pub returns-then-a-b : goal.returns-then-a-b
returns-then-a-b c = unequal c.args.a.now c.args.b.now c.if-a-b.true
