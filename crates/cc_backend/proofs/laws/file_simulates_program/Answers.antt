use Rattle.cc_backend.proofs.Chain as laws
use Rattle.cc_backend.proofs.laws.file_simulates_program.Goals as goal

pub returns : goal.returns
returns c = laws.file_simulates_program
