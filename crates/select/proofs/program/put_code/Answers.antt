use Rattle.std.proofs.Common.{◌∙◌, sym, ap, subst}
use Rattle.std.specs.Prelude.{slice_get}
use Rattle.frames_code.specs.Code.{function_of}
use Rattle.frames_code.specs.Sound.{InstructionFits}
use Rattle.select.proofs.Lists.{got_or}
use Rattle.select.proofs.Shortened.{shortened_fits}
use Rattle.select.proofs.program.put_code.Goals as goal

pub put_instruction-requires-clause-fits : goal.put_instruction-requires-clause-fits
put_instruction-requires-clause-fits c =
    let f = c.requires.fits in
    let at = c.loop-instruction.instruction-index in
    let held = c.deref-instruction-items in
    let fit = f.1.each at _ (ap (λ xs. slice_get xs at) (sym held.ensures.value) ∙ got_or held.result.now at _ c.loop-instruction-test.true) in
    (f.0, subst (InstructionFits f.0 (function_of c.args.function.now)) (sym c.shortened.ensures) (shortened_fits f.0 (function_of c.args.function.now) c.deref.result.now c.loop-instruction.number _ fit))
