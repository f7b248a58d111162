use Rattle.cc_backend.proofs.Chain as laws
use Rattle.cc_backend.proofs.laws.tac_simulates_program.Goals as goal

pub returns : goal.returns
returns c = laws.tac_simulates_program
