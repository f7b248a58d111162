use Rattle.std.proofs.Common.{refl}
use Rattle.tac_code.specs.Code.{function_of, program_of}
use Rattle.tac_code.specs.Sound.{FunctionFits}
use Rattle.test_tac_soundness.proofs.Lists.{false-true, one_more, not_all}
use Rattle.test_tac_soundness.proofs.programs.are_sound_functions.Goals as goal

pub loop-number-preserved : goal.loop-number-preserved
loop-number-preserved c = record { each = one_more (FunctionFits (program_of c.args.program.now)) function_of c.args.functions.now c.loop-number.number c.index-functions-number.result c.loop-number.invariant.each c.loop-number-test.true c.index-functions-number.is (c.if-not-is_sound_function.ensures.0 refl) }

pub returns-then-not-is_sound_function : goal.returns-then-not-is_sound_function
returns-then-not-is_sound_function c = (λ t. absurd (false-true t), λ fit. not_all (FunctionFits (program_of c.args.program.now)) function_of c.args.functions.now c.loop-number.number c.index-functions-number.result c.loop-number-test.true c.index-functions-number.is c.if-not-is_sound_function.ensures.1 fit.each)
