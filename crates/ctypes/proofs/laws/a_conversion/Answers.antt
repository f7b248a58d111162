use Rattle.ctypes.proofs.Uses.{converted_fits, converted_keeps, converted_is_congruent}
use Rattle.ctypes.proofs.laws.a_conversion.Goals as goal

pub returns : goal.returns
returns c = record { fits = converted_fits; keeps = converted_keeps; congruent = converted_is_congruent }
