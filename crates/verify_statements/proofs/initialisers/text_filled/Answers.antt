use Rattle.verify_statements.proofs.Fills.{text_fills_at}
use Rattle.verify_statements.proofs.initialisers.text_filled.Goals as goal

pub returns : goal.returns
returns c = text_fills_at _ _ _ _ c.requires _ _ _ _ _ _ c.in-Some.ensures.cases.0 (c.are_none-alone.ensures c.if-not-alone.false) c.all_of-j.ensures (c.holds_zero-zero.ensures c.if-not-zero.false) (c.fits-within.ensures c.if-not-within.false)
