use Rattle.std.proofs.Common.{refl}
use Rattle.cc.proofs.Entries.{one_more, none_left, no_more, all_put}
use Rattle.cc.proofs.Light.{light_at}
use Rattle.cc.proofs.compiling.put_entries.Goals as goal

pub loop-done-preserved : goal.loop-done-preserved
loop-done-preserved c =
    one_more c.args.names.now c.args.functions.now c.args.frames.now c.loop-done.done c.index-functions-done.result _ c.loop-done.list.items c.push.new.self.items c.in_ok-entry.field-0 _
    c.loop-done-test.true c.if-done-frames.true c.index-functions-done.is refl c.in_ok-push.ensures.items c.in_ok-entry.ensures c.loop-done.invariant

pub returns-after-loop-done : goal.returns-after-loop-done
returns-after-loop-done c =
    all_put c.loop-done.list.items _ _ (none_left c.args.names.now c.args.functions.now c.args.frames.now c.loop-done.done c.loop-done-test.false) c.loop-done.invariant

pub returns-else-done-frames : goal.returns-else-done-frames
returns-else-done-frames c =
    all_put c.loop-done.list.items _ _ (no_more c.args.names.now c.args.functions.now c.args.frames.now c.loop-done.done c.if-done-frames.false) c.loop-done.invariant

pub entry-requires : goal.entry-requires
entry-requires c = light_at c.args.functions.now c.loop-done.done c.index-functions-done.result c.requires c.loop-done-test.true c.index-functions-done.is
