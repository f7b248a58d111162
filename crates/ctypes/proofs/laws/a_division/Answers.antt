use Rattle.ctypes.proofs.Uses.{quotient_is_exact, remainder_is_exact, division_adds_up}
use Rattle.ctypes.proofs.laws.a_division.Goals as goal

pub returns : goal.returns
returns c = record { quotient = quotient_is_exact; remainder = remainder_is_exact; adds_up = division_adds_up }
