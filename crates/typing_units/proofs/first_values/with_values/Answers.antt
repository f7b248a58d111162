use Rattle.std.proofs.Common.{arith}
use Rattle.typing_units.proofs.Values.{set_first, set_none}
use Rattle.typing_units.proofs.first_values.with_values.Goals as goal

pub returns-then-initial-len : goal.returns-then-initial-len
returns-then-initial-len c = λ os is e.
    set_first c.args.all.now.items c.index_mut.result.now c.args.initial os is (omega (arith, c.if-initial-len.true, c.len.ensures, c.args.all.now.ok.0)) c.index_mut.ensures.value e

pub returns-else-initial-len : goal.returns-else-initial-len
returns-else-initial-len c = λ os is e. set_none c.args.all.now.items c.args.initial os is (omega (arith, c.if-initial-len.false, c.len.ensures, c.args.all.now.ok.0)) e
