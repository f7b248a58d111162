use Rattle.ctypes.proofs.Uses.{right_fits, computed_fits, computed_refuses, signed_is_exact, result_is_congruent}
use Rattle.ctypes.proofs.laws.an_operation.Goals as goal

pub returns : goal.returns
returns c = record { right = right_fits; fits = computed_fits; refuses = computed_refuses; exact = signed_is_exact; congruent = result_is_congruent }
