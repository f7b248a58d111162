use Rattle.std.proofs.Common.{◌<◌, length, arith}
use Rattle.frames_opt.proofs.Forward.{one_more_made, one_more_offered}
use Rattle.frames_opt.proofs.passes.forward.Goals as goal

pub loop-number-preserved : goal.loop-number-preserved
loop-number-preserved c =
    let within : c.loop-number.number < length c.args.code.now = omega (arith, c.loop-number-test.true, c.loop-number.auto.number-end) in (
      one_more_made c.args.room c.args.marks.now c.loop-number.number c.loop-number.facts c.freshen.new.facts c.pass.new.facts _ c.simpler-simple.result c.args.code.now within
          c.freshen.ensures c.simpler-simple.ensures c.pass.ensures c.loop-number.made.items c.push-in-loop-number.new.self.items _ c.in_ok-push-2.ensures.items c.loop-number.invariant.0,
      one_more_offered c.args.room c.args.marks.now c.loop-number.number c.loop-number.facts c.freshen.new.facts c.pass.new.facts _ c.simpler-simple.result c.args.code.now within
          c.freshen.ensures c.simpler-simple.ensures c.pass.ensures c.offer.result c.loop-number.list.items c.push.new.self.items _ c.offer.ensures c.in_ok-push.ensures.items c.loop-number.invariant.1,
    )
