use Rattle.std.proofs.Common.{refl}
use Rattle.tac_code.specs.declared.code.Instruction.TheVariants as instruction
use Rattle.tac_code.specs.Code.{function_of, program_of}
use Rattle.test_tac_soundness.proofs.Values.{one_more_fits, not_all_fit}
use Rattle.test_tac_soundness.proofs.functions.has_sound_code.Goals as goal

pub loop-number-preserved : goal.loop-number-preserved
loop-number-preserved c = one_more_fits (program_of c.args.program.now) (function_of c.args.function.now) c.as_slice-code.result.now c.loop-number.number instruction.Nothing c.as_slice-code.ensures.value c.loop-number.invariant c.loop-number-test.true (c.if-not-has_all.ensures.0 refl)

pub returns-then-not-has_all : goal.returns-then-not-has_all
returns-then-not-has_all c = not_all_fit (program_of c.args.program.now) (function_of c.args.function.now) c.as_slice-code.result.now c.loop-number.number instruction.Nothing c.as_slice-code.ensures.value c.loop-number-test.true c.if-not-has_all.ensures.1
