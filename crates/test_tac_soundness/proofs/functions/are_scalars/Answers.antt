use Rattle.std.proofs.Common.{refl}
use Rattle.tac_code.specs.Code.{function_of}
use Rattle.test_tac_soundness.proofs.Values.{one_more_scalar}
use Rattle.test_tac_soundness.proofs.functions.are_scalars.Goals as goal

pub loop-number-preserved : goal.loop-number-preserved
loop-number-preserved c = one_more_scalar (function_of c.args.function.now) c.loop-number.number c.loop-number.invariant (c.if-not-is_scalar.ensures.0 refl)
