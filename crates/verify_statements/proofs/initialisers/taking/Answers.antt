use Rattle.verify_statements.proofs.Fills.{takes_both}
use Rattle.verify_statements.proofs.initialisers.taking.Goals as goal

pub returns-clause-takes : goal.returns-clause-takes
returns-clause-takes c = takes_both _ _ _ _ _ _ c.in-Some.ensures (c.entails-contained.ensures c.if-not-contained.false) c.in_ok-copy.ensures c.in_ok-again.ensures (c.imply-kept.ensures c.if-not-kept.false)
