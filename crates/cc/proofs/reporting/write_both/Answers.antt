use Rattle.std.proofs.Common.{refl}
use Rattle.cc.proofs.Sayings.{joined}
use Rattle.cc.proofs.reporting.write_both.Goals as goal

pub returns-clause-some : goal.returns-clause-some
returns-clause-some g c = joined _ _ _ c.args.first.now c.args.second.now (c.if-not-write_text.ensures.all refl) c.write_text-2.ensures.some
