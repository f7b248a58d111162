use Rattle.std.proofs.Common.{refl}
use Rattle.test_frames_soundness.proofs.Lists.{one_more, not_all}
use Rattle.test_frames_soundness.proofs.functions.are_sound_functions.Goals as goal

pub loop-number-preserved : goal.loop-number-preserved
loop-number-preserved c = one_more c.args.count c.args.functions.now c.loop-number.number c.index-functions-number.result c.loop-number.invariant c.loop-number-test.true c.index-functions-number.is (c.if-not-is_sound_function.ensures.0 refl)

pub returns-then-not-is_sound_function : goal.returns-then-not-is_sound_function
returns-then-not-is_sound_function c = not_all c.args.count c.args.functions.now c.loop-number.number c.index-functions-number.result c.loop-number-test.true c.index-functions-number.is c.if-not-is_sound_function.ensures.1
