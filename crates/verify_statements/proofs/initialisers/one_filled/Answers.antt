use Rattle.verify_statements.proofs.Fills.{one_fills_at}
use Rattle.verify_statements.proofs.initialisers.one_filled.Goals as goal

pub returns : goal.returns
returns c = one_fills_at _ _ _ _ c.requires _ _ _ _ _ _ _ _ _ (c.are_none-scalar.ensures c.if-not-scalar.false) c.is_quiet-quiet.ensures c.if-not-quiet.false c.in_ok-copy.ensures c.in_ok-v.ensures c.conversion-j.ensures (c.fits-within.ensures c.if-not-within.false)
