use Rattle.std.proofs.Common.{rules}
use Rattle.loader.proofs.Headers.{one_more}
use Rattle.loader.proofs.header.loads_from.Goals as goal

pub loop-k-preserved : goal.loop-k-preserved
loop-k-preserved c = record {
  few = search rules;
  items = one_more c.args.bytes.now c.args.at c.loop-k.k c.args.count c.loop-k.loads.items c.push_header.new.loads.items _ c.loop-k-test.true c.loop-k.invariant.items c.push_header.ensures.items;
}
