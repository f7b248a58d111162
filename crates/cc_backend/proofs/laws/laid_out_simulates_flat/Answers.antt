use Rattle.cc_backend.proofs.Optimising as laws
use Rattle.cc_backend.proofs.laws.laid_out_simulates_flat.Goals as goal

pub returns : goal.returns
returns c = laws.laid_out_simulates_flat
