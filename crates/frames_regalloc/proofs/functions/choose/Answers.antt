use Rattle.std.proofs.Common.{rules}
use Rattle.frames_regalloc.proofs.Pairs.{one_more_inside}
use Rattle.frames_regalloc.proofs.functions.choose.Goals as goal

pub loop-first-preserved : goal.loop-first-preserved
loop-first-preserved c = record {
  weights = search rules;
  inside = one_more_inside c.args.function.now.cells c.loop-first.swaps.items c.push.new.self.items _ c.loop-first.invariant.inside (search rules) (search rules) c.in_ok-push.ensures.items;
  few = search rules;
}
