use Rattle.std.proofs.Common.{arith}
use Rattle.pp.proofs.ConditionLemmas.{resolves_all}
use Rattle.pp.proofs.conditions.resolved.Goals as goal

pub returns-clause-ok : goal.returns-clause-ok
returns-clause-ok c =
    let l = c.loop-index in
    resolves_all c.args.names.now c.args.state.now c.args.tokens.now l.list.items l.skip l.index (omega (arith, c.loop-index-test.false)) l.invariant
