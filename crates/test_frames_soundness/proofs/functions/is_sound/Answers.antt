use Rattle.std.proofs.Common.{arith, refl}
use Rattle.test_frames_soundness.proofs.Lists.{sound, sound_functions}
use Rattle.test_frames_soundness.proofs.functions.is_sound.Goals as goal

pub returns : goal.returns
returns c = (λ t. sound c.args.program.now c.as_slice-functions.result.now c.as_slice-functions.ensures.value (omega (arith, c.if-program-functions.false)) (omega (arith, c.if-len-gt268435456.false)) (c.if-not-are_countable.ensures.0 refl) (c.are_sound_functions.ensures.0 t), λ s. c.are_sound_functions.ensures.1 (sound_functions c.args.program.now c.as_slice-functions.result.now c.as_slice-functions.ensures.value s))
