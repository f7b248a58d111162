use Rattle.cc_backend.proofs.Chain as laws
use Rattle.cc_backend.proofs.laws.flat_simulates_tac.Goals as goal

pub returns : goal.returns
returns c = laws.flat_simulates_tac
