use Rattle.verify_statements.proofs.Fills.{end_full, end_zero}
use Rattle.verify_statements.proofs.initialisers.rest_filled.Goals as goal

pub returns-then-done-n : goal.returns-then-done-n
returns-then-done-n c = end_full _ _ _ _ c.requires _ _ _ _ _ c.if-done-n.true

pub returns : goal.returns
returns c = end_zero _ _ _ _ c.requires _ _ _ _ _ _ _ c.single-none.ensures c.hull-j.ensures.first c.hull-j.ensures.second (c.fits-within.ensures c.if-not-within.false)
