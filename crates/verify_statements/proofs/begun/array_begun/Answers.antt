use Rattle.std.proofs.Common.{refl}
use Rattle.verify_statements.proofs.Fills.{defined_whole}
use Rattle.verify_statements.proofs.begun.array_begun.Goals as goal

pub returns : goal.returns
returns c = defined_whole _ _ _ _ _ _ _ _ _ _ _ _ _ _ _ _ c.only.ensures c.base.ensures c.in-Some.ensures c.requires refl c.deref.ensures.value c.in_ok-state2.ensures c.in_ok-wide.ensures.implied c.in_ok-j.ensures c.initialised-new.ensures c.in_ok-state3.ensures
