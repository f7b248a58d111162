use Rattle.phases.proofs.RunLemmas.{sure_step}
use Rattle.phases.proofs.ScanLemmas.{goes_more, goes_white}
use Rattle.phases.proofs.scanner.Scanner.put_quick.Goals as goal

pub quick-requires : goal.quick-requires
quick-requires c = record { step = sure_step c.loop-first.at c.in-Some.first c.in-Some.ensures }

pub loop-first-preserved : goal.loop-first-preserved
loop-first-preserved c =
    let more = goes_more c.args.self.now c.loop-first.self c.put.new.self c.args.start c.loop-first.at c.in-Some.first c.in-Some-quick.front c.loop-first.count c.loop-first.invariant c.in-Some.ensures c.in-Some-quick.ensures c.in_ok-put.ensures.ok in
    goes_white _ _ _ _ _ _ _ more c.white-white.ensures c.pass_white.ensures
